pub mod WireLaws
