-- A flag is set exactly where its value is read as true.
use Rattle.std.proofs.Common.{◌≡◌, Bool, true, false, Option, Some, None, refl, sym, ap}
use Rattle.std.specs.Prelude.{codes, unwrap_or}
use Rattle.std.specs.Option.{option_map_or}
use Rattle.std.specs.Str.{bytes_eq}
use Rattle.std.specs.Str.Parse.{ParsesBool}
use Rattle.std.proofs.lemmas.Slice.Eq.{bytes_eq-Decides}
use Rattle.clap.specs.Words.{Text}
use Rattle.clap.specs.Matches.{ReadsOne}

abbrev pub is_true : Option Text → Bool
is_true value = option_map_or (λ text. bytes_eq text (codes "true")) value false

not_true : (text : Text) → (text ≡ codes "true" → ⊥) → false ≡ bytes_eq text (codes "true")
not_true text differs = go (bytes_eq text (codes "true")) refl
  where
    go : (b : Bool) → bytes_eq text (codes "true") ≡ b → false ≡ b
    go false is = refl
    go true is = absurd (differs ((bytes_eq-Decides text (codes "true")).0 is))

pub flag_read : (E : Type 0) (value : Option Text) (read : Option Bool) → (value ≡ None → read ≡ None)
    → ((text : Text) → value ≡ Some text → ReadsOne {E = E} ParsesBool text read) → unwrap_or read false ≡ is_true value
flag_read E None read none some = ap (λ r. unwrap_or r false) (none refl)
flag_read E (Some text) (Some true) none some = ap (λ t. bytes_eq t (codes "true")) (sym (some text refl))
flag_read E (Some text) (Some false) none some = ap (λ t. bytes_eq t (codes "true")) (sym (some text refl))
flag_read E (Some text) None none some = not_true text (some text refl).1.0
