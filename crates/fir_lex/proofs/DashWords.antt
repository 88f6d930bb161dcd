-- The words with a dash: one is found where one begins.
use Rattle.std.proofs.Common.{◌≡◌, ℕ, true, false, List, ◌++◌, length, drop, codes, Option, Some, None, refl, sym, ap, ◌∙◌, inl, inr, subst}
use Rattle.std.specs.Prelude.{nat_eq}
use Rattle.std.specs.List.{starts_with}
use Rattle.std.proofs.lemmas.Bool.{cond_both, both_ways}
use Rattle.std.proofs.lemmas.Bool.Decides.{Decides-eqb}
use Rattle.std.proofs.lemmas.Slice.Eq.{starts_is}
use Rattle.fir_base.specs.Lists.{In}
use Rattle.fir_lex.specs.working.Front.{dash_word_at}
use Rattle.fir_lex.specs.Spelled.{dash_words}
use Rattle.fir_lex.specs.Longest.{BeginsWithNoDashWord}

abbrev pub DashAt : List ℕ → Option (List ℕ) → Type 0
DashAt bytes (Some w) = In dash_words w × (bytes ≡ w ++ drop (length w) bytes)
DashAt bytes None = BeginsWithNoDashWord bytes

begins : (bytes w : List ℕ) → starts_with nat_eq bytes w ≡ true → bytes ≡ w ++ drop (length w) bytes
begins bytes w e = (starts_is Decides-eqb bytes w (starts_with nat_eq bytes w) refl).0 e

never : (bytes w v more : List ℕ) → starts_with nat_eq bytes w ≡ false → w ≡ v → bytes ≡ v ++ more → ⊥
never bytes w v more off same e =
    both_ways (starts_with nat_eq bytes w) off
    ((starts_is Decides-eqb bytes w (starts_with nat_eq bytes w) refl).1 more (e ∙ ap (λ (x : List ℕ). x ++ more) (sym same)))

pub dash_found : (bytes : List ℕ) → DashAt bytes (dash_word_at bytes)
dash_found bytes =
    cond_both (starts_with nat_eq bytes (codes "data-type")) _ _ (DashAt bytes) (λ e. (inl refl, begins bytes (codes "data-type") e)) (λ a.
    cond_both (starts_with nat_eq bytes (codes "read-latency")) _ _ (DashAt bytes) (λ e. (inr (inl refl), begins bytes (codes "read-latency") e)) (λ b.
    cond_both (starts_with nat_eq bytes (codes "write-latency")) _ _ (DashAt bytes) (λ e. (inr (inr (inl refl)), begins bytes (codes "write-latency") e)) (λ d.
    cond_both (starts_with nat_eq bytes (codes "read-under-write")) _ _ (DashAt bytes)
    (λ e. (inr (inr (inr (inl refl))), begins bytes (codes "read-under-write") e)) (λ f. none a b d f))))
  where
    none : starts_with nat_eq bytes (codes "data-type") ≡ false → starts_with nat_eq bytes (codes "read-latency") ≡ false
        → starts_with nat_eq bytes (codes "write-latency") ≡ false → starts_with nat_eq bytes (codes "read-under-write") ≡ false → BeginsWithNoDashWord bytes
    none a b d f w more (inl m) e = never bytes (codes "data-type") w more a m e
    none a b d f w more (inr (inl m)) e = never bytes (codes "read-latency") w more b m e
    none a b d f w more (inr (inr (inl m))) e = never bytes (codes "write-latency") w more d m e
    none a b d f w more (inr (inr (inr (inl m)))) e = never bytes (codes "read-under-write") w more f m e
    none a b d f w more (inr (inr (inr (inr m)))) e = absurd m

pub no_dash_found : (bytes : List ℕ) → BeginsWithNoDashWord bytes → dash_word_at bytes ≡ None
no_dash_found bytes none = by_found (dash_word_at bytes) (dash_found bytes) where
  by_found : (o : Option (List ℕ)) → DashAt bytes o → o ≡ None
  by_found (Some w) h = absurd (none w (drop (length w) bytes) h.0 h.1)
  by_found None h = refl

abbrev IsTaken : List ℕ → List ℕ → Type 0
IsTaken more w = dash_word_at (w ++ more) ≡ Some w

pub dash_taken : (w more : List ℕ) → In dash_words w → dash_word_at (w ++ more) ≡ Some w
dash_taken w more (inl m) = subst (IsTaken more) m refl
dash_taken w more (inr (inl m)) = subst (IsTaken more) m refl
dash_taken w more (inr (inr (inl m))) = subst (IsTaken more) m refl
dash_taken w more (inr (inr (inr (inl m)))) = subst (IsTaken more) m refl
dash_taken w more (inr (inr (inr (inr m)))) = absurd m
