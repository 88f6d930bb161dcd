-- One leaf or node more is met and marked.
use Rattle.std.proofs.Common.{◌≡◌, ℕ, zero, suc, ◌<◌, List, [], ◌∷◌, ◌++◌, Bool, true, false, Some, length, length-set, set, sym, ap, ◌∙◌, subst, refl, inl, inr}
use Rattle.std.specs.Prelude.{slice_get}
use Rattle.std.proofs.lemmas.Option.{slice_get_within}
use Rattle.fir_base.proofs.Writes.{PushedOr, push_left, push_end, push_cases, write_same, WrittenOr, write_cases, two_items, kept}
use Rattle.fir_net.specs.declared.net.FlatNet.{FlatNet}
use Rattle.fir_net.specs.declared.reads.Read.{Read}
use Rattle.fir_net.specs.working.Dependence.{IsOf}
use Rattle.fir_work.specs.working.Numbers.{place}
use Rattle.fir_work.proofs.HeldNumbers.{one_place}
use Rattle.fir_inits.specs.declared.search.Met.{Met}
use Rattle.fir_inits.specs.declared.search.Origin.{Origin}
use Rattle.fir_inits.specs.declared.search.Origin.TheVariants as origin
use Rattle.fir_inits.specs.working.Searched.{AreMet, ComesFrom, IsMet, unmarked}

-- what was met stays so
pub still_met : (met : List Met) (m : Met) (v : Read) → IsMet met v → IsMet (met ++ m ∷ []) v
still_met met m v h = record { number = h.number; entry = h.entry; at = push_left met (m ∷ []) h.number h.entry h.at; is = h.is }

pub now_met : (met : List Met) (v : Read) (o : Origin) → IsMet (met ++ record { read = v; origin = o } ∷ []) v
now_met met v o = record { number = length met; entry = record { read = v; origin = o }; at = push_end met (record { read = v; origin = o }); is = refl }

comes_more : (net : FlatNet) (met : List Met) (n : Met) (i : ℕ) (v : Read) (o : Origin) → ComesFrom net met i v o → ComesFrom net (met ++ n ∷ []) i v o
comes_more net met n i v (origin.Init k) h = h
comes_more net met n i v (origin.Met j) h = (h.0, h.1, push_left met (n ∷ []) j h.1 h.2, h.3)

-- the marks that are left
pub one_fewer : (marks : List Bool) (p : ℕ) → slice_get marks p ≡ Some false → unmarked marks ≡ suc (unmarked (set marks p true))
one_fewer [] p h = cc
one_fewer (true ∷ marks) zero h = cc
one_fewer (false ∷ marks) zero h = refl
one_fewer (true ∷ marks) (suc p) h = one_fewer marks p h
one_fewer (false ∷ marks) (suc p) h = ap suc (one_fewer marks p h)

module _ (net : FlatNet) (marks : List Bool) (met : List Met) (are : AreMet net marks met) (v : Read) (o : Origin) where
  abbrev one : Met
  one = record { read = v; origin = o }

  pub marked_more : IsOf net v → slice_get marks (place net v) ≡ Some false → ComesFrom net met (length met) v o → AreMet net (set marks (place net v) true) (met ++ one ∷ [])
  marked_more of mark comes = record {
    covers = length-set marks (place net v) true ∙ are.covers;
    of = λ i m h. of_each m (push_cases met one i m h);
    marked = λ i m h. marked_each m (push_cases met one i m h);
    only = λ w is h. only w is (write_cases marks (place net v) true (place net w) true has h);
    once = λ i j m n h g e. once i j m n e (push_cases met one i m h) (push_cases met one j n g);
    comes = λ i m h. comes_each i m (push_cases met one i m h);
  }
    where
      has : place net v < length marks
      has = slice_get_within marks (place net v) false mark

      of_each : {i : ℕ} (m : Met) → PushedOr met one i m → IsOf net m.read
      of_each {i} m (inl h) = are.of i m h
      of_each m (inr (e, f)) = subst (λ (n : Met). IsOf net n.read) f of

      marked_each : {i : ℕ} (m : Met) → PushedOr met one i m → slice_get (set marks (place net v) true) (place net m.read) ≡ Some true
      marked_each {i} m (inl h) = kept marks (place net v) false true mark (place net m.read) true (λ e. cc) (are.marked i m h)
      marked_each m (inr (e, f)) = subst (λ (n : Met). slice_get (set marks (place net v) true) (place net n.read) ≡ Some true) f (write_same marks (place net v) true has)

      only : (w : Read) → IsOf net w → WrittenOr marks (place net v) true (place net w) true → IsMet (met ++ one ∷ []) w
      only w is (inl (e, f)) = subst (IsMet (met ++ one ∷ [])) (sym (one_place net v w of is (sym e))) (now_met met v o)
      only w is (inr (n, h)) = still_met met one w (are.only w is h)

      fresh : (i : ℕ) (m : Met) → slice_get met i ≡ Some m → m.read ≡ v → ⊥
      fresh i m h e = let f : false ≡ true = two_items marks (place net v) false true mark (ap (λ (r : Read). slice_get marks (place net r)) (sym e) ∙ are.marked i m h) in cc

      once : (i j : ℕ) (m n : Met) → m.read ≡ n.read → PushedOr met one i m → PushedOr met one j n → i ≡ j
      once i j m n e (inl h) (inl g) = are.once i j m n h g e
      once i j m n e (inl h) (inr (a, f)) = absurd (fresh i m h (e ∙ ap (λ (x : Met). x.read) (sym f)))
      once i j m n e (inr (a, f)) (inl g) = absurd (fresh j n g (sym e ∙ ap (λ (x : Met). x.read) (sym f)))
      once i j m n e (inr (a, f)) (inr (b, g)) = a ∙ sym b

      comes_each : (i : ℕ) (m : Met) → PushedOr met one i m → ComesFrom net (met ++ one ∷ []) i m.read m.origin
      comes_each i m (inl h) = comes_more net met one i m.read m.origin (are.comes i m h)
      comes_each i m (inr (e, f)) =
          subst (λ (n : Met). ComesFrom net (met ++ one ∷ []) i n.read n.origin) f
          (subst (λ (j : ℕ). ComesFrom net (met ++ one ∷ []) j v o) (sym e) (comes_more net met one (length met) v o comes))
