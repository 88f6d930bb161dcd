-- Statements over leaves that drive and read leaves of the module, through indices either of ports alone or of none: those of connects and invalids.
use Rattle.std.proofs.Common.{◌≡◌, ℕ, zero, suc, ◌+◌, ◌<◌, ◌≤◌, List, [], ◌∷◌, Bool, true, false, if◌then◌else◌, Option, Some, None, refl, sym, subst, arith}
use Rattle.std.specs.List.{AllByRecursion}
use Rattle.std.proofs.lemmas.Option.{slice_get_within}
use Rattle.fir_ast.specs.declared.place.Place.{Place}
use Rattle.fir_ast.specs.Types.{DataType}
use Rattle.fir_meaning.specs.TypeLeaves.{type_leaves, leaf_count}
use Rattle.fir_meaning.specs.ConnectPairs.{Pair}
use Rattle.fir_meaning.specs.working.LeafBlocks.{LeafBlock, LeafStatement, joined}
use Rattle.fir_meaning.specs.working.LeafBlocks as over
use Rattle.fir_meaning.specs.working.LeafModules.{LeafModule}
use Rattle.fir_meaning.specs.working.LeafPairs.{LeafPair}
use Rattle.fir_meaning.specs.working.LeafedBlocks.{alone, driven, driven_from, driven_where, term_at, Sides, pair_block, pairs_block, invalid_leaf, invalid_leaves}
use Rattle.fir_leaf.specs.working.SoundDesigns.{IsRead}
use Rattle.fir_design_faults.proofs.AllTerms.{AllPicksIn, AllTermIn}
use Rattle.fir_meaning.specs.working.Targets.{Target}
use Rattle.fir_meaning.specs.working.Terms.{Term, zeros}
use Rattle.fir_leaf.proofs.LeafPlaces.{leaves_counted}
use Rattle.fir_leaf.proofs.PairsByNumber.{IsPair, ArePairs}
use Rattle.fir_design_faults.proofs.ReadTargets.{AreNamesIn, IsTargetIn}
use Rattle.fir_design_faults.proofs.ReadTargets as targets
use Rattle.fir_design_faults.proofs.ReadTerms.{IsTyped, at_in}

module _ (m : LeafModule) where
  abbrev mutual
    pub IsReading : LeafStatement → Type 0
    IsReading (over.drive p b ps t) = IsRead m b ps × AllPicksIn m ps × AllTermIn m t
    IsReading (over.when p c a b) = AllTermIn m c × AreReading a × AreReading b
    IsReading (over.instance i) = Unit {0}

    pub AreReading : LeafBlock → Type 0
    AreReading over.done = Unit {0}
    AreReading (over.then s b) = IsReading s × AreReading b

  pub joined_reading : (b c : LeafBlock) → AreReading b → AreReading c → AreReading (joined b c)
  joined_reading over.done c h k = k
  joined_reading (over.then s b) c h k = (h.0, joined_reading b c h.1 k)

  driven_reading : (p : Place) (r : Target) (k : ℕ) (t : Term) → IsTargetIn m r → k < leaf_count r.data_type → AllTermIn m t
      → AreReading (driven p r k t)
  driven_reading p r k t h lt inside = by r.base refl
    where
      by : (o : Option ℕ) → r.base ≡ o → AreReading (driven_from p o r k t)
      by None e = tt
      by (Some b) e = ((targets.target_read m r h b k e lt, h.picks, inside), tt)

  -- a side that may drive nothing
  abbrev pub IsSide : Option Target → DataType → Type 0
  IsSide None u = Unit {0}
  IsSide (Some r) u = IsTyped m r u

  module _ (p : Place) (s : Sides) (t u : DataType) (left : IsTyped m s.left t) (right : IsSide s.right u)
      (gives : AllByRecursion (AllTermIn m) s.gives)
      (gives_back : AllByRecursion (AllTermIn m) s.gives_back) where
    right_reading : (o : Option Target) (k : ℕ) (x : Term) → IsSide o u → k < leaf_count u → AllTermIn m x
        → AreReading (driven_where p o k x)
    right_reading None k x h lt inside = tt
    right_reading (Some r) k x h lt inside = driven_reading p r k x h.inside (subst (λ v. k < leaf_count v) (sym h.data_type) lt) inside

    pair_reading : (l : LeafPair) (q : Pair) → IsPair (type_leaves t) (type_leaves u) l q → AreReading (pair_block p s l)
    pair_reading l q h =
        by l.flip
        (right_reading s.right l.right (term_at s.gives_back l.left) right
        (omega (arith, slice_get_within (type_leaves u) l.right q.right h.right, leaves_counted u)) (at_in m s.gives_back l.left gives_back))
        (driven_reading p s.left l.left (term_at s.gives l.right) left.inside
        (subst (λ v. l.left < leaf_count v) (sym left.data_type)
        (omega (arith, slice_get_within (type_leaves t) l.left q.left h.left, leaves_counted t)))
        (at_in m s.gives l.right gives))
      where
        by : (b : Bool) → AreReading (driven_where p s.right l.right (term_at s.gives_back l.left))
            → AreReading (driven p s.left l.left (term_at s.gives l.right))
            → AreReading
            (if b then driven_where p s.right l.right (term_at s.gives_back l.left) else driven p s.left l.left (term_at s.gives l.right))
        by true x y = x
        by false x y = y

    pub pairs_reading : (ls : List LeafPair) (qs : List Pair) → ArePairs (IsPair (type_leaves t) (type_leaves u)) ls qs
        → AreReading (pairs_block p s ls)
    pairs_reading [] qs h = tt
    pairs_reading (l ∷ ls) [] h = absurd h
    pairs_reading (l ∷ ls) (q ∷ qs) h = joined_reading (pair_block p s l) (pairs_block p s ls) (pair_reading l q h.0) (pairs_reading ls qs h.1)

  pub invalid_reading : (p : Place) (r : Target) → IsTargetIn m r → (may : ℕ → Bool) (k count : ℕ) → k + count ≤ leaf_count r.data_type
      → AreReading (invalid_leaves may p r k count)
  invalid_reading p r h may k zero long = tt
  invalid_reading p r h may k (suc count) long =
      joined_reading (invalid_leaf may p r.base r k) (invalid_leaves may p r (suc k) count) (one r.base refl)
      (invalid_reading p r h may (suc k) count (omega (arith, long)))
    where
      driven_if : (c : Bool) (b : ℕ) → r.base ≡ Some b → AreReading (if c then alone (over.drive p (b + k) r.picks zeros) else over.done)
      driven_if true b e = ((targets.target_read m r h b k e (omega (arith, long)), h.picks, tt), tt)
      driven_if false b e = tt

      one : (o : Option ℕ) → r.base ≡ o → AreReading (invalid_leaf may p o r k)
      one None e = tt
      one (Some b) e = driven_if (may (b + k)) b e
