pub mod Guilt
pub mod Setting
pub mod SameTexts
pub mod CopyTexts
pub mod ResponseTexts
