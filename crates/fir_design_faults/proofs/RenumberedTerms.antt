-- Moved terms in a net: what a term of a module stands for over the numbers of the whole is what it stands for in the module, renumbered.
use Rattle.std.proofs.Common.{◌≡◌, ℕ, ◌<◌, ◌≤◌, List, [], ◌∷◌, ◌++◌, map, flat_map, length, Option, Some, None, refl, sym, ap, ap₂, ◌∙◌, subst, arith}
use Rattle.std.specs.Prelude.{option_map}
use Rattle.std.proofs.lemmas.List.{map-append}
use Rattle.fir_ast.specs.declared.place.Place.{Place}
use Rattle.fir_bits.specs.working.Types.{typed}
use Rattle.fir_bits.specs.declared.operators.PrimOp.{PrimOp}
use Rattle.fir_bits.specs.declared.operators.PrimOp.TheVariants.{Orr}
use Rattle.fir_bits.specs.declared.types.NumTy.{NumTy}
use Rattle.fir_bits.specs.declared.values.Num.{Num}
use Rattle.fir_meaning.specs.Values.{number_of}
use Rattle.fir_meaning.specs.working.LeafModules.{LeafModule}
use Rattle.fir_meaning.specs.working.Numberings.{Numbering, moved, moved_picks, moved_terms, number}
use Rattle.fir_meaning.specs.working.TermReads.{reached}
use Rattle.fir_meaning.specs.working.TermValues.{Holds}
use Rattle.fir_meaning.specs.working.Terms.{Term, zeros, absent, literal, read, operation, mux, validif, Picks, no_picks, pick, Terms, no_terms, term}
use Rattle.fir_leaf.specs.working.SoundDesigns.{IsRead, last_of}
use Rattle.fir_connect.specs.working.Lowered.{Candidate, both, candidates, conditions, first_met, is_number, lowered, lowered_each, numbers_from, result, type_or_none, unpicked, without, zero_of}
use Rattle.fir_connect.specs.working.MovedTerms.{renumbered, renumbered_each}
use Rattle.fir_connect.specs.working.NetTerms.{NetTerm, NetTerms, choice, joined_type, term_type, term_types}
use Rattle.fir_connect.specs.working.NetTerms as net
use Rattle.fir_design_faults.proofs.AllTerms.{AllPicksIn, AllTermIn, AllTermsIn}
use Rattle.fir_design_faults.proofs.MovedReads.{reached_moved}

-- the leaves of a module have in the whole the types that they have in the module
abbrev pub HaveTypes : Numbering → LeafModule → Holds → Holds → Type 0
HaveTypes n m outer inner = (x : ℕ) → x < length m.leaves → outer (number n x) ≡ inner x

-- conditions and candidates over other numbers
module _ (f : ℕ → ℕ) where
  abbrev pub moved_candidate : Candidate → Candidate
  moved_candidate c = record { number = f c.number; condition = renumbered f c.condition }

  tests_moved : (l : NetTerm) (e : Option NetTerm) (js : List ℕ)
      → map (λ j. Some (both (option_map (renumbered f) e) (is_number (renumbered f l) j))) js
      ≡ map (option_map (renumbered f)) (map (λ j. Some (both e (is_number l j))) js)
  tests_moved l e [] = refl
  tests_moved l None (j ∷ js) =
      ap (λ (os : List (Option NetTerm)). Some (renumbered f (both None (is_number l j))) ∷ os) (tests_moved l None js)
  tests_moved l (Some d) (j ∷ js) =
      ap (λ (os : List (Option NetTerm)). Some (renumbered f (both (Some d) (is_number l j))) ∷ os) (tests_moved l (Some d) js)

  tests_of_each : (l : NetTerm) (js : List ℕ) (es : List (Option NetTerm))
      → flat_map (λ e. map (λ j. Some (both e (is_number (renumbered f l) j))) js) (map (option_map (renumbered f)) es)
      ≡ map (option_map (renumbered f)) (flat_map (λ e. map (λ j. Some (both e (is_number l j))) js) es)
  tests_of_each l js [] = refl
  tests_of_each l js (e ∷ es) =
      ap₂ (λ (xs ys : List (Option NetTerm)). xs ++ ys) (tests_moved l e js) (tests_of_each l js es)
      ∙ sym (map-append (option_map (renumbered f)) (map (λ j. Some (both e (is_number l j))) js)
      (flat_map (λ e. map (λ j. Some (both e (is_number l j))) js) es))

  candidates_renumbered : (xs : List ℕ) (cs : List (Option NetTerm))
      → candidates (map f xs) (map (option_map (renumbered f)) cs) ≡ map moved_candidate (candidates xs cs)
  candidates_renumbered [] cs = refl
  candidates_renumbered (x ∷ xs) [] = refl
  candidates_renumbered (x ∷ xs) (None ∷ cs) = refl
  candidates_renumbered (x ∷ xs) (Some c ∷ cs) =
      ap (λ (ds : List Candidate). record { number = f x; condition = renumbered f c } ∷ ds) (candidates_renumbered xs cs)

pub last_behind : (b : ℕ) (ps : Picks) → b ≤ last_of b ps
last_behind b no_picks = omega arith
last_behind b (pick ps p i c each) = let e : b ≤ last_of b ps = last_behind b ps in omega (arith, e)

module _ (n : Numbering) (outer inner : Holds) where
  -- a term of the whole beside one of the module
  pub record IsRenumbered (o i : NetTerm) : Type 0 where
    pub is : o ≡ renumbered (number n) i
    pub types : term_type outer o ≡ term_type inner i

  pub record AreRenumbered (os is : NetTerms) : Type 0 where
    pub are : os ≡ renumbered_each (number n) is
    pub types : term_types outer os ≡ term_types inner is

  value_renumbered : (v : Num) → IsRenumbered (net.value v) (net.value v)
  value_renumbered v = record { is = refl; types = refl }

  pub zero_renumbered : (t u : NumTy) → t ≡ u → IsRenumbered (zero_of t) (zero_of u)
  zero_renumbered t u e = subst (λ v. IsRenumbered (zero_of t) (zero_of v)) e (value_renumbered (number_of t 0))

  pub choice_renumbered : (c d a b e f : NetTerm) → c ≡ renumbered (number n) d → IsRenumbered a b → IsRenumbered e f
      → IsRenumbered (choice outer c a e) (choice inner d b f)
  choice_renumbered c d a b e f h k l = record {
    is = rw (k.types, l.types, h, k.is, l.is) refl;
    types = ap₂ joined_type k.types l.types;
  }

  result_renumbered : (op : PrimOp) (os is : NetTerms) (ks : List ℕ) → AreRenumbered os is
      → IsRenumbered (result outer op os ks) (result inner op is ks)
  result_renumbered op os is ks h =
      let same = ap (λ ts. type_or_none (typed op ts ks)) h.types in
      record { is = ap₂ (λ ts t. net.operation op ts ks t) h.are same; types = same }

  one_renumbered : (o i : NetTerm) → IsRenumbered o i → AreRenumbered (net.term o net.no_terms) (net.term i net.no_terms)
  one_renumbered o i h = record { are = ap (λ t. net.term t net.no_terms) h.is; types = ap (λ t. t ∷ []) h.types }

  first_renumbered : (t : NumTy) (cs : List Candidate) (o i : NetTerm) → IsRenumbered o i
      → IsRenumbered (first_met outer t o (map (moved_candidate (number n)) cs)) (first_met inner t i cs)
  first_renumbered t [] o i h = h
  first_renumbered t (c ∷ cs) o i h = record {
    is = ap (λ e. net.mux (renumbered (number n) c.condition) (net.leaf (number n c.number)) e t) (first_renumbered t cs o i h).is;
    types = refl;
  }

  -- with what stands for no candidate
  met_renumbered : (t : NumTy) (cs : List Candidate) (o i : NetTerm) → IsRenumbered o i
      → IsRenumbered
      (first_met outer t (without outer (map (moved_candidate (number n)) cs) o (zero_of t)) (map (moved_candidate (number n)) cs))
      (first_met inner t (without inner cs i (zero_of t)) cs)
  met_renumbered t [] o i h = h
  met_renumbered t (c ∷ cs) o i h = first_renumbered t (c ∷ cs) (zero_of t) (zero_of t) (record { is = refl; types = refl })

  module _ (m : LeafModule) (ports : n.ports ≡ m.port_leaves) (same : HaveTypes n m outer inner) where
    candidates_are : (b : ℕ) (ps : Picks) → IsRead m b ps
        → conditions outer (moved_picks n ps) ≡ map (option_map (renumbered (number n))) (conditions inner ps)
        → candidates (reached (number n b) (moved_picks n ps)) (conditions outer (moved_picks n ps))
        ≡ map (moved_candidate (number n)) (candidates (reached b ps) (conditions inner ps))
    candidates_are b ps h k =
        ap₂ (λ (xs : List ℕ) (cs : List (Option NetTerm)). candidates xs cs) (reached_moved n m ports b ps h) k
        ∙ candidates_renumbered (number n) (reached b ps) (conditions inner ps)

    -- one more index
    conditions_more : (ps : Picks) (p : Place) (i : Term) (k each : ℕ) → lowered outer (moved n i) ≡ renumbered (number n) (lowered inner i)
        → conditions outer (moved_picks n ps) ≡ map (option_map (renumbered (number n))) (conditions inner ps)
        → conditions outer (moved_picks n (pick ps p i k each)) ≡ map (option_map (renumbered (number n))) (conditions inner (pick ps p i k each))
    conditions_more ps p i k each h before =
        ap₂ (λ (l : NetTerm) (es : List (Option NetTerm)). flat_map (λ e. map (λ j. Some (both e (is_number l j))) (numbers_from 0 k)) es) h before
        ∙ tests_of_each (number n) (lowered inner i) (numbers_from 0 k) (conditions inner ps)

    unpicked_more : (ps : Picks) (p : Place) (i : Term) (k each : ℕ) (t u : NetTerm) → IsRenumbered (lowered outer (moved n i)) (lowered inner i)
        → IsRenumbered (unpicked outer (moved_picks n ps) t) (unpicked inner ps u) → IsRenumbered t u
        → IsRenumbered (unpicked outer (moved_picks n (pick ps p i k each)) t) (unpicked inner (pick ps p i k each) u)
    unpicked_more ps p i k each t u h before r =
        let hangs = result_renumbered Orr (net.term (lowered outer (moved n i)) net.no_terms) (net.term (lowered inner i) net.no_terms) []
        (one_renumbered (lowered outer (moved n i)) (lowered inner i) h) in
        choice_renumbered (result outer Orr (net.term (lowered outer (moved n i)) net.no_terms) []) (result inner Orr (net.term (lowered inner i) net.no_terms) [])
        (unpicked outer (moved_picks n ps) t) (unpicked inner ps u) t u hangs.is before r

    -- a read through indices
    read_moved : (b : ℕ) (ps : Picks) (p : Place) (i : Term) (k each : ℕ) → IsRead m b (pick ps p i k each)
        → conditions outer (moved_picks n (pick ps p i k each)) ≡ map (option_map (renumbered (number n))) (conditions inner (pick ps p i k each))
        → IsRenumbered (unpicked outer (moved_picks n (pick ps p i k each)) (zero_of (inner b))) (unpicked inner (pick ps p i k each) (zero_of (inner b)))
        → IsRenumbered (lowered outer (moved n (read b (pick ps p i k each)))) (lowered inner (read b (pick ps p i k each)))
    read_moved b ps p i k each h tests hangs =
        let whole = pick ps p i k each in
        let t = inner b in
        let found = candidates (reached b whole) (conditions inner whole) in
        let more = candidates (reached (number n b) (moved_picks n whole)) (conditions outer (moved_picks n whole)) in
        let none = unpicked outer (moved_picks n whole) (zero_of t) in
        let far : b < length m.leaves = omega (arith, last_behind b whole, h.within) in
        subst (λ u. IsRenumbered (first_met outer u (without outer more (unpicked outer (moved_picks n whole) (zero_of u)) (zero_of u)) more)
        (lowered inner (read b whole))) (sym (same b far))
        (subst (λ cs. IsRenumbered (first_met outer t (without outer cs none (zero_of t)) cs) (lowered inner (read b whole)))
        (sym (candidates_are b whole h tests)) (met_renumbered t found none (unpicked inner whole (zero_of t)) hangs))

    mutual
      pub lowered_moved : (t : Term) → AllTermIn m t → IsRenumbered (lowered outer (moved n t)) (lowered inner t)
      lowered_moved zeros h = record { is = refl; types = refl }
      lowered_moved (absent t ps) h = unpicked_moved ps h (zero_of t) (zero_of t) (record { is = refl; types = refl })
      lowered_moved (literal l) h = record { is = refl; types = refl }
      lowered_moved (read b no_picks) h = record { is = refl; types = same b h.0.within }
      lowered_moved (read b (pick ps p i k each)) h =
          let index = lowered_moved i h.1.1 in
          let zero = value_renumbered (number_of (inner b) 0) in
          read_moved b ps p i k each h.0 (conditions_more ps p i k each index.is (conditions_moved ps h.1.0))
          (unpicked_more ps p i k each (zero_of (inner b)) (zero_of (inner b)) index (unpicked_moved ps h.1.0 (zero_of (inner b)) (zero_of (inner b)) zero) zero)
      lowered_moved (operation op ts ks) h = result_renumbered op (lowered_each outer (moved_terms n ts)) (lowered_each inner ts) ks (each_moved ts h)
      lowered_moved (mux c a b) h =
          choice_renumbered (lowered outer (moved n c)) (lowered inner c) (lowered outer (moved n a)) (lowered inner a) (lowered outer (moved n b)) (lowered inner b)
          (lowered_moved c h.0).is (lowered_moved a h.1) (lowered_moved b h.2)
      lowered_moved (validif c a) h =
          let given = lowered_moved a h.1 in
          choice_renumbered (lowered outer (moved n c)) (lowered inner c) (lowered outer (moved n a)) (lowered inner a)
          (zero_of (term_type outer (lowered outer (moved n a)))) (zero_of (term_type inner (lowered inner a)))
          (lowered_moved c h.0).is given (zero_renumbered (term_type outer (lowered outer (moved n a))) (term_type inner (lowered inner a)) given.types)

      each_moved : (ts : Terms) → AllTermsIn m ts → AreRenumbered (lowered_each outer (moved_terms n ts)) (lowered_each inner ts)
      each_moved no_terms h = record { are = refl; types = refl }
      each_moved (term t ts) h =
          let first = lowered_moved t h.0 in
          let rest = each_moved ts h.1 in
          record {
            are = ap₂ (λ o os. net.term o os) first.is rest.are;
            types = ap₂ (λ (o : NumTy) (os : List NumTy). o ∷ os) first.types rest.types;
          }

      conditions_moved : (ps : Picks) → AllPicksIn m ps
          → conditions outer (moved_picks n ps) ≡ map (option_map (renumbered (number n))) (conditions inner ps)
      conditions_moved no_picks h = refl
      conditions_moved (pick ps p i k each) h = conditions_more ps p i k each (lowered_moved i h.1).is (conditions_moved ps h.0)

      unpicked_moved : (ps : Picks) → AllPicksIn m ps → (t u : NetTerm) → IsRenumbered t u
          → IsRenumbered (unpicked outer (moved_picks n ps) t) (unpicked inner ps u)
      unpicked_moved no_picks h t u r = r
      unpicked_moved (pick ps p i k each) h t u r = unpicked_more ps p i k each t u (lowered_moved i h.1) (unpicked_moved ps h.0 t u r) r

    -- the leaves that indices may pick, each with its condition
    pub candidates_moved : (b : ℕ) (ps : Picks) → IsRead m b ps → AllPicksIn m ps
        → candidates (reached (number n b) (moved_picks n ps)) (conditions outer (moved_picks n ps))
        ≡ map (moved_candidate (number n)) (candidates (reached b ps) (conditions inner ps))
    candidates_moved b ps h k = candidates_are b ps h (conditions_moved ps k)
