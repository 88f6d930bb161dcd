pub mod Fields
pub mod TreeViews
