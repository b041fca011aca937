-- Laws: an image and what it holds. Assumes nothing.
pub mod ImageLaws
pub mod ImageBack
pub mod CardBack
