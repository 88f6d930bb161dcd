-- The texts of ends, by their numbers.
use Rattle.std.specs.Prelude.{ℕ, List, [], Option, Some, None, slice_get}
use Rattle.fir_infer_resets.specs.declared.item.End.{End as EndOfCode}
use Rattle.fir_infer_resets.specs.working.Holding.{item_of}
use Rattle.fir_meaning.specs.ResetWalks.{reset_item_text}

abbrev pub text_where : Option EndOfCode → List ℕ
text_where None = []
text_where (Some own) = reset_item_text (item_of own.item)

abbrev pub text_at : List EndOfCode → ℕ → List ℕ
text_at owns x = text_where (slice_get owns x)
