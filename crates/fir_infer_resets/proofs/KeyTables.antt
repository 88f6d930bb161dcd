-- A table of numbers under keys with one entry more.
use Rattle.std.proofs.Common.{◌≡◌, ℕ, List, Bool, true, false, cond, Option, Some, None, refl, sym, ap, ◌∙◌, inl, inr, ◌⊎◌}
use Rattle.std.specs.BTreeMap.{BTreeMap, get, is_at, Updates, IsEmpty}
use Rattle.std.specs.Map.{lookup}
use Rattle.std.specs.Cmp.Lexicographic.{slice_cmp}
use Rattle.std.specs.Ordering.{nat_cmp}
use Rattle.std.specs.Str.{bytes_eq}
use Rattle.std.proofs.lemmas.Map.Text.{is_eq-slice_cmp}
use Rattle.std.proofs.lemmas.Option.{same_Some, none-some}
use Rattle.fir_base.proofs.SameNames.{name_is, name_same, name_other}

abbrev pub under : BTreeMap (List ℕ) ℕ → List ℕ → Option ℕ
under table key = get (slice_cmp nat_cmp) table key

module _ (old new : BTreeMap (List ℕ) ℕ) (key : List ℕ) (n : ℕ) (u : Updates (slice_cmp nat_cmp) old new key (Some n)) where
  under_now : (q : List ℕ) → under new q ≡ cond (bytes_eq key q) (Some n) (under old q)
  under_now q = u.0 q ∙ ap (λ b. cond b (Some n) (under old q)) (is_eq-slice_cmp key q)

  pub table_here : under new key ≡ Some n
  table_here = under_now key ∙ ap (λ b. cond b (Some n) (under old key)) (name_same key)

  -- the new entry, or an old one
  pub table_cases : (q : List ℕ) (x : ℕ) → under new q ≡ Some x → ((key ≡ q) × (n ≡ x)) ⊎ (under old q ≡ Some x)
  table_cases q x h = by (bytes_eq key q) (name_is key q) (sym (under_now q) ∙ h)
    where
      by : (b : Bool) → (b ≡ true → key ≡ q) → cond b (Some n) (under old q) ≡ Some x → ((key ≡ q) × (n ≡ x)) ⊎ (under old q ≡ Some x)
      by true is e = inl (is refl, same_Some n x e)
      by false is e = inr e

  -- what is there stays, where the key is new
  pub table_kept : under old key ≡ None → (q : List ℕ) (x : ℕ) → under old q ≡ Some x → under new q ≡ Some x
  table_kept none q x h =
      under_now q
      ∙ ap (λ b. cond b (Some n) (under old q)) (name_other key q (λ e. absurd (none-some x (sym none ∙ ap (under old) e ∙ h)))) ∙ h

pub under_none : (table : BTreeMap (List ℕ) ℕ) → IsEmpty table → (q : List ℕ) → under table q ≡ None
under_none table h q = ap (lookup (is_at (slice_cmp nat_cmp q))) h
