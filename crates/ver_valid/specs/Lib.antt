pub mod working
pub use Rattle.ver_ast.specs.Valid
