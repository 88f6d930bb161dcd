-- Runs of bytes of one kind, and words that a byte ends which is neither of a word nor a dash: no word with a dash begins where they do.
use Rattle.std.proofs.Common.{◌≡◌, ℕ, true, List, [], ◌∷◌, ◌++◌, codes, refl, sym, ap, ◌∙◌, subst, inl, inr, arith}
use Rattle.std.specs.List.{AllByRecursion, list_all}
use Rattle.fir_base.proofs.Tests.{both}
use Rattle.fir_lex.specs.Spelled.{ContinuesWord}
use Rattle.fir_lex.specs.Longest.{BeginsWithNoDashWord}
use Rattle.fir_lex.proofs.Runs.{Kind, word_kind}

-- bytes that each pass the test are of the kind
pub all_of_kind : (k : Kind) (bs : List ℕ) → list_all k.test bs ≡ true → AllByRecursion k.Is bs
all_of_kind k [] h = tt
all_of_kind k (b ∷ bs) h = let t = both (k.test b) (list_all k.test bs) h in ((k.decides b).0 t.0, all_of_kind k bs t.1)

-- behind the bytes of a word, as many as stand there, the same byte stands on both sides
same_behind : (w v : List ℕ) (a b : ℕ) (x y : List ℕ) → AllByRecursion ContinuesWord w → AllByRecursion ContinuesWord v → (ContinuesWord a → ⊥)
    → (ContinuesWord b → ⊥) → w ++ a ∷ x ≡ v ++ b ∷ y → a ≡ b
same_behind [] [] a b x y all_w all_v a_ends b_ends e = cc
same_behind [] (d ∷ v) a b x y all_w all_v a_ends b_ends e = let same : d ≡ a = cc in absurd (a_ends (subst ContinuesWord same all_v.0))
same_behind (c ∷ w) [] a b x y all_w all_v a_ends b_ends e = let same : c ≡ b = cc in absurd (b_ends (subst ContinuesWord same all_w.0))
same_behind (c ∷ w) (d ∷ v) a b x y all_w all_v a_ends b_ends e =
    let rest : w ++ a ∷ x ≡ v ++ b ∷ y = cc in same_behind w v a b x y all_w.1 all_v.1 a_ends b_ends rest

dash_ends : ContinuesWord 45 → ⊥
dash_ends h = omega arith

module _ (w : List ℕ) (b : ℕ) (bs : List ℕ) (all : AllByRecursion ContinuesWord w) (ends : ContinuesWord b → ⊥) (no_dash : b ≡ 45 → ⊥) where
  never : (v more : List ℕ) → AllByRecursion ContinuesWord v → w ++ b ∷ bs ≡ v ++ 45 ∷ more → ⊥
  never v more all_v e = no_dash (same_behind w v b 45 bs more all all_v ends dash_ends e)

  -- no word with a dash begins there
  pub no_dash_word : BeginsWithNoDashWord (w ++ b ∷ bs)
  no_dash_word d more (inl m) e =
      never (codes "data") (codes "type" ++ more) (all_of_kind word_kind (codes "data") refl) (e ∙ ap (λ (x : List ℕ). x ++ more) (sym m))
  no_dash_word d more (inr (inl m)) e =
      never (codes "read") (codes "latency" ++ more) (all_of_kind word_kind (codes "read") refl) (e ∙ ap (λ (x : List ℕ). x ++ more) (sym m))
  no_dash_word d more (inr (inr (inl m))) e =
      never (codes "write") (codes "latency" ++ more) (all_of_kind word_kind (codes "write") refl) (e ∙ ap (λ (x : List ℕ). x ++ more) (sym m))
  no_dash_word d more (inr (inr (inr (inl m)))) e =
      never (codes "read") (codes "under-write" ++ more) (all_of_kind word_kind (codes "read") refl) (e ∙ ap (λ (x : List ℕ). x ++ more) (sym m))
  no_dash_word d more (inr (inr (inr (inr m)))) e = absurd m
