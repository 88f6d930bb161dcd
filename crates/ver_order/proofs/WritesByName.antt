-- The words of a register or an array come of the writes to it alone.
use Rattle.std.proofs.Common.{◌≡◌, ℕ, List, [], ◌∷◌, ◌++◌, cond, true, false, Bool, refl, sym, ap, ◌∙◌, inl, inr}
use Rattle.std.specs.Prelude.{filter, slice_set}
use Rattle.std.specs.Str.{bytes_eq}
use Rattle.std.proofs.lemmas.List.Elements.{filter-append}
use Rattle.fir_base.specs.Lists.{In}
use Rattle.fir_base.proofs.SameNames.{name_is}
use Rattle.ver_ast.specs.Stores.{Store}
use Rattle.ver_ast.specs.Next.{Put, put_one, put_all}

-- the writes to the register or array of that name
abbrev pub writes_to : List ℕ → List Put → List Put
writes_to name ps = filter (λ p. bytes_eq p.name name) ps

-- other writes, and what other names hold, make no difference to a name
words_by_name : (n : List ℕ) (ps : List Put) (s t : Store) → s n ≡ t n → put_all ps s n ≡ put_all (writes_to n ps) t n
words_by_name n [] s t e = e
words_by_name n (p ∷ ps) s t e = by (bytes_eq p.name n) refl (words_by_name n ps (put_one p s) (put_one p t)) (words_by_name n ps (put_one p s) t)
  where
    by : (b : Bool) → bytes_eq p.name n ≡ b
        → (put_one p s n ≡ put_one p t n → put_all ps (put_one p s) n ≡ put_all (writes_to n ps) (put_one p t) n)
        → (put_one p s n ≡ t n → put_all ps (put_one p s) n ≡ put_all (writes_to n ps) t n)
        → put_all ps (put_one p s) n ≡ put_all (cond b (p ∷ writes_to n ps) (writes_to n ps)) t n
    by true q f g = f (ap (λ (xs : List ℕ). cond (bytes_eq p.name n) (slice_set xs p.place p.word) xs) e)
    by false q f g = g (ap (λ (b : Bool). cond b (slice_set (s n) p.place p.word) (s n)) q ∙ e)

pub same_writes : (a b : List Put) (s : Store) → ((n : List ℕ) → writes_to n a ≡ writes_to n b) → put_all a s ≡ put_all b s
same_writes a b s h = λ i n. at n i
  where
    at : (n : List ℕ) → put_all a s n ≡ put_all b s n
    at n = words_by_name n a s s refl ∙ ap (λ (ps : List Put). put_all ps s n) (h n) ∙ sym (words_by_name n b s s refl)

pub named_append : (n : List ℕ) (a b : List Put) → writes_to n (a ++ b) ≡ writes_to n a ++ writes_to n b
named_append n a b = filter-append (λ p. bytes_eq p.name n) a b

pub none_named : (n : List ℕ) (ps : List Put) → ((p : Put) → In ps p → p.name ≡ n → ⊥) → writes_to n ps ≡ []
none_named n [] h = refl
none_named n (p ∷ ps) h = by (bytes_eq p.name n) refl (none_named n ps (λ q m. h q (inr m)))
  where
    by : (c : Bool) → bytes_eq p.name n ≡ c → writes_to n ps ≡ [] → cond c (p ∷ writes_to n ps) (writes_to n ps) ≡ []
    by true e k = absurd (h p (inl refl) (name_is p.name n e))
    by false e k = k
