-- The leaf that indices pick is one of those that they may pick.
use Rattle.std.proofs.Common.{◌≡◌, ℕ, zero, suc, ◌+◌, ◌*◌, ◌<◌, List, [], ◌∷◌, Bool, true, false, ◌||◌, Option, Some, None, option_map, refl, sym, ◌∙◌, arith, flat_map, inl, inr, nat_eq, nat_lt, if◌then◌else◌}
use Rattle.std.proofs.lemmas.Option.{same_Some}
use Rattle.fir_base.specs.Lists.{In}
use Rattle.fir_base.proofs.Members.{in_flat_map}
use Rattle.fir_meaning.specs.working.Terms.{Picks, no_picks, pick}
use Rattle.fir_meaning.specs.working.TermValues.{Holds, eval, leaf_of}
use Rattle.fir_meaning.specs.working.TermReads.{is_among, multiples, reached}

pub same_is : (x : ℕ) → nat_eq x x ≡ true
same_is x = grind arith

pub among_in : (xs : List ℕ) (x : ℕ) → In xs x → is_among xs x ≡ true
among_in [] x m = absurd m
among_in (y ∷ xs) x (inl e) = rw (e, same_is x) refl
among_in (y ∷ xs) x (inr m) = rw (among_in xs x m) (go (nat_eq y x))
  where
    go : (b : Bool) → (b || true) ≡ true
    go true = refl
    go false = refl

pub in_multiples : (i k n each m : ℕ) → i < n → m ≡ k + i * each → In (multiples k n each) m
unfolding multiples
in_multiples i k zero each m l e = absurd (omega (arith, l))
in_multiples zero k (suc n) each m l e = inl (omega (arith, e))
in_multiples (suc i) k (suc n) each m l e = inr (in_multiples i (k + each) n each m (omega (arith, l)) (e ∙ grind arith))

-- the leaf that is picked is one of those that may be
pub in_reached : (holds : Holds) (numbers : ℕ → ℕ) (b x : ℕ) (ps : Picks) → leaf_of holds numbers b ps ≡ Some x → In (reached b ps) x
in_reached holds numbers b x no_picks e = let same : b ≡ x = cc in inl same
in_reached holds numbers b x (pick ps p i n each) e = go (nat_lt v n) (leaf_of holds numbers b ps) refl refl e (λ k. in_reached holds numbers b k ps)
  where
    v : ℕ
    v = (eval holds numbers i).value.number

    go : (t : Bool) (o : Option ℕ) → nat_lt v n ≡ t → leaf_of holds numbers b ps ≡ o → (if t then option_map (λ k. k + v * each) o else None) ≡ Some x
        → ((k : ℕ) → leaf_of holds numbers b ps ≡ Some k → In (reached b ps) k) → In (flat_map (λ k. multiples k n each) (reached b ps)) x
    go false o l q s h = absurd cc
    go true None l q s h = absurd cc
    go true (Some k) l q s h =
        in_flat_map (λ k. multiples k n each) (reached b ps) k x (h k q) (in_multiples v k n each x (grind arith) (sym (same_Some _ _ s)))
