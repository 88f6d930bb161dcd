pub mod Layout
pub mod Comments
pub mod working
pub use Rattle.ver_ast.specs.Spells
pub use Rattle.ver_ast.specs.Valid
