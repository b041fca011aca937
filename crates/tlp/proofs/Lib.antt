pub mod DecodeLaws
pub mod RoundTrip
