-- What the nodes make of a term that has a type is the lowered term.
use Rattle.std.proofs.Common.{◌≡◌, ℕ, zero, suc, ◌+◌, ◌≤◌, List, [], ◌∷◌, ◌++◌, flat_map, map, Bool, true, false, not, if◌then◌else◌, Option, Some, None, Result, Ok, Err, refl, sym, ap, ◌∙◌, subst, arith}
use Rattle.std.specs.Prelude.{IsOk, slice_index}
use Rattle.fir_bits.specs.Forms.{first_type, form_of, second_type, takes}
use Rattle.fir_bits.specs.Types.{is_legal, signed_of}
use Rattle.fir_bits.specs.working.Types.{typed}
use Rattle.fir_bits.specs.Widths.{is_narrow, width_of}
use Rattle.fir_bits.specs.declared.operators.PrimOp.{PrimOp}
use Rattle.fir_bits.specs.declared.operators.PrimOp.TheVariants.{Orr}
use Rattle.fir_bits.specs.declared.types.NumTy.{NumTy}
use Rattle.fir_bits.specs.declared.types.OpFault.{OpFault}
use Rattle.fir_bits.specs.declared.types.OpFault.TheVariants.{Kinds, Over, Legality}
use Rattle.fir_bits.proofs.Typing.{typed_at-width}
use Rattle.fir_ast.specs.declared.place.Place.{Place}
use Rattle.fir_meaning.specs.Values.{literal_type}
use Rattle.fir_meaning.specs.LeafTypes.{LeafType, number}
use Rattle.fir_meaning.specs.working.TermReads.{multiples, reached}
use Rattle.fir_meaning.specs.working.TermValues.{Holds}
use Rattle.fir_meaning.specs.working.Terms.{Term, Picks, Terms, zeros, absent, literal, read, operation, mux, validif, no_picks, pick, no_terms, term}
use Rattle.fir_leaf_types.specs.working.TypedTerms.{AreIndices, HasType, HaveTypes, IsNarrow, one_bit}
use Rattle.fir_connect.specs.working.Lowered.{Candidate, both, candidates, conditions, first_met, is_number, lowered, lowered_each, numbers_from, result, unpicked, without, zero_of}
use Rattle.fir_connect.specs.working.LoweredLaws.{LoweredHasType, types_of}
use Rattle.fir_connect.specs.working.NetTerms.{NetTerm}
use Rattle.fir_connect.specs.working.NetTerms as net
use Rattle.fir_merge.specs.working.Made.{chosen_by, elements, first_met_from, further, further_each, index_terms, made, made_each}
use Rattle.fir_merge.proofs.NarrowChoices.{narrow_is}

-- what has a type as a result is no wider
abbrev checked : Bool → Bool → NumTy → Result NumTy OpFault
checked narrow legal t = if not narrow then Err Over else if not legal then Err Legality else Ok t

narrow_by : (fit narrow legal : Bool) (t u : NumTy) → (IsOk (checked narrow legal t) → t.width ≤ 128)
    → (if not fit then Err Kinds else checked narrow legal t) ≡ Ok u → u.width ≤ 128
narrow_by false narrow legal t u f e = cc
narrow_by true false legal t u f e = cc
narrow_by true true false t u f e = cc
narrow_by true true true t u f e = let same : t ≡ u = cc in subst (λ (v : NumTy). v.width ≤ 128) same (f refl)

result_narrow : (op : PrimOp) (us : List NumTy) (ks : List ℕ) (u : NumTy) → typed op us ks ≡ Ok u → u.width ≤ 128
result_narrow op us ks u e =
    let a = first_type us in
    let b = second_type us in
    let n = slice_index ks 0 in
    let m = slice_index ks 1 in
    narrow_by (takes (form_of op) us ks) (is_narrow op a.signed a.width b.width n m) (is_legal op a.width n m)
    (record { signed = signed_of op a.signed; width = width_of op a.signed a.width b.width n m }) u (typed_at-width op a b n m) e

-- one more index
pub chosen_more : (holds : Holds) (is : List NetTerm) (i s z : NetTerm)
    → chosen_by holds (is ++ i ∷ []) s z ≡ net.choice holds (result holds Orr (net.term i net.no_terms) []) (chosen_by holds is s z) z
chosen_more holds [] i s z = refl
chosen_more holds (j ∷ is) i s z = chosen_more holds is i (net.choice holds (result holds Orr (net.term j net.no_terms) []) s z) z

-- the leaves of elements that are counted from one
abbrev pub counted : ℕ → List Candidate → List Candidate
counted b [] = []
counted b (c ∷ cs) = record { number = b + c.number; condition = c.condition } ∷ counted b cs

met_counted : (holds : Holds) (b : ℕ) (t : NumTy) (other : NetTerm) (cs : List Candidate) → first_met_from holds b t other cs ≡ first_met holds t other (counted b cs)
met_counted holds b t other [] = refl
met_counted holds b t other (c ∷ cs) = ap (λ rest. net.mux c.condition (net.leaf (b + c.number)) rest t) (met_counted holds b t other cs)

without_counted : (holds : Holds) (b : ℕ) (cs : List Candidate) (none some : NetTerm) → without holds cs none some ≡ without holds (counted b cs) none some
without_counted holds b [] none some = refl
without_counted holds b (c ∷ cs) none some = refl

-- a list of candidates as the lists of their leaves and of their conditions
abbrev leaves_of : ℕ → List Candidate → List ℕ
leaves_of b [] = []
leaves_of b (c ∷ cs) = (b + c.number) ∷ leaves_of b cs

abbrev conditions_of : List Candidate → List (Option NetTerm)
conditions_of [] = []
conditions_of (c ∷ cs) = Some c.condition ∷ conditions_of cs

joined : (b : ℕ) (cs : List Candidate) → candidates (leaves_of b cs) (conditions_of cs) ≡ counted b cs
joined b [] = refl
joined b (c ∷ cs) = ap (λ rest. record { number = b + c.number; condition = c.condition } ∷ rest) (joined b cs)

leaves_both : (b : ℕ) (xs ys : List Candidate) → leaves_of b (xs ++ ys) ≡ leaves_of b xs ++ leaves_of b ys
leaves_both b [] ys = refl
leaves_both b (x ∷ xs) ys = ap (λ rest. (b + x.number) ∷ rest) (leaves_both b xs ys)

conditions_both : (xs ys : List Candidate) → conditions_of (xs ++ ys) ≡ conditions_of xs ++ conditions_of ys
conditions_both [] ys = refl
conditions_both (x ∷ xs) ys = ap (λ rest. Some x.condition ∷ rest) (conditions_both xs ys)

further_leaves : (b : ℕ) (earlier : Option NetTerm) (x : ℕ) (i : NetTerm) (each k n : ℕ) → leaves_of b (further earlier x i each k n) ≡ multiples (b + x) n each
unfolding multiples
further_leaves b earlier x i each k zero = refl
further_leaves b earlier x i each k (suc n) =
    let at : b + (x + each) ≡ (b + x) + each = omega arith in
    ap (λ rest. (b + x) ∷ rest) (further_leaves b earlier (x + each) i each (suc k) n ∙ ap (λ y. multiples y n each) at)

further_conditions : (earlier : Option NetTerm) (x : ℕ) (i : NetTerm) (each k n : ℕ)
    → conditions_of (further earlier x i each k n) ≡ map (λ j. Some (both earlier (is_number i j))) (numbers_from k n)
further_conditions earlier x i each k zero = refl
further_conditions earlier x i each k (suc n) =
    ap (λ rest. Some (both earlier (is_number i k)) ∷ rest) (further_conditions earlier (x + each) i each (suc k) n)

each_leaves : (b : ℕ) (i : NetTerm) (each n : ℕ) (cs : List Candidate)
    → leaves_of b (further_each i each n cs) ≡ flat_map (λ x. multiples x n each) (leaves_of b cs)
each_leaves b i each n [] = refl
each_leaves b i each n (c ∷ cs) =
    let here = further (Some c.condition) c.number i each 0 n in
    let first = further_leaves b (Some c.condition) c.number i each 0 n in
    let rest = each_leaves b i each n cs in
    leaves_both b here (further_each i each n cs) ∙ (λ j. first j ++ rest j)

each_conditions : (i : NetTerm) (each n : ℕ) (cs : List Candidate)
    → conditions_of (further_each i each n cs) ≡ flat_map (λ earlier. map (λ k. Some (both earlier (is_number i k))) (numbers_from 0 n)) (conditions_of cs)
each_conditions i each n [] = refl
each_conditions i each n (c ∷ cs) =
    let here = further (Some c.condition) c.number i each 0 n in
    let first = further_conditions (Some c.condition) c.number i each 0 n in
    let rest = each_conditions i each n cs in
    conditions_both here (further_each i each n cs) ∙ (λ j. first j ++ rest j)

one_list : {A : Type 0} (xs : List A) → xs ≡ xs ++ []
one_list [] = refl
one_list (x ∷ xs) = ap (λ rest. x ∷ rest) (one_list xs)

-- there is an index
abbrev pub IsPicked : Picks → Type 0
IsPicked no_picks = ⊥
IsPicked (pick ps p i n each) = Unit {0}

module _ (held : ℕ → LeafType) where
  -- what indices make is what they are lowered to
  record ArePicksMade (ps : Picks) : Type 0 where
    indices : (z : NetTerm) → chosen_by (types_of held) (index_terms (types_of held) ps) z z ≡ unpicked (types_of held) ps z
    leaves : (b : ℕ) → IsPicked ps → leaves_of b (elements (types_of held) ps) ≡ reached b ps
    all : IsPicked ps → conditions_of (elements (types_of held) ps) ≡ conditions (types_of held) ps

  counted_are : (b : ℕ) (ps : Picks) → ArePicksMade ps → IsPicked ps
      → candidates (reached b ps) (conditions (types_of held) ps) ≡ counted b (elements (types_of held) ps)
  counted_are b ps made_so picked =
      let each_leaf = made_so.leaves b picked in
      let each_condition = made_so.all picked in
      (λ j. candidates (sym each_leaf j) (sym each_condition j)) ∙ joined b (elements (types_of held) ps)

  -- no type is wider than 128 bits
  typed_narrow : (t : Term) (u : LeafType) → HasType held t u → IsNarrow u
  typed_narrow zeros u h = absurd h
  typed_narrow (absent t ps) u h = h.1
  typed_narrow (literal l) u h = h.1
  typed_narrow (read b ps) u h = h.1
  typed_narrow (operation op ts ks) u h = subst IsNarrow (sym h.4) (result_narrow op h.0 ks h.1 h.3)
  typed_narrow (mux c a b) u h =
      let one : h.1.width ≤ 128 = typed_narrow a (number h.1) h.3 in
      let other : h.2.width ≤ 128 = typed_narrow b (number h.2) h.4 in
      subst IsNarrow (sym h.6) (omega arith)
  typed_narrow (validif c a) u h = subst IsNarrow (sym h.3) (typed_narrow a (number h.1) h.2)

  -- one more index
  pick_made : (ps : Picks) (p : Place) (i : Term) (n each : ℕ) → made (types_of held) i ≡ lowered (types_of held) i → ArePicksMade ps → ArePicksMade (pick ps p i n each)
  pick_made no_picks p i n each index before =
      let there = made (types_of held) i in
      record {
        indices = λ z. λ j. net.choice (types_of held) (result (types_of held) Orr (net.term (index j) net.no_terms) []) z z;
        leaves = λ b picked.
            let at : b + 0 ≡ b = omega arith in
            further_leaves b None 0 there each 0 n ∙ ap (λ x. multiples x n each) at ∙ one_list (multiples b n each);
        all = λ picked.
            further_conditions None 0 there each 0 n
            ∙ ap (λ x. map (λ k. Some (both None (is_number x k))) (numbers_from 0 n)) index
            ∙ one_list (map (λ k. Some (both None (is_number (lowered (types_of held) i) k))) (numbers_from 0 n));
      }
  pick_made (pick ps q k m apart) p i n each index before =
      let there = made (types_of held) i in
      let found = elements (types_of held) (pick ps q k m apart) in
      let each_condition : conditions_of found ≡ conditions (types_of held) (pick ps q k m apart) = before.all tt in
      record {
        indices = λ z.
            let so_far = before.indices z in
            chosen_more (types_of held) (index_terms (types_of held) (pick ps q k m apart)) there z z
            ∙ (λ j. net.choice (types_of held) (result (types_of held) Orr (net.term (index j) net.no_terms) []) (so_far j) z);
        leaves = λ b picked. each_leaves b there each n found ∙ ap (flat_map (λ x. multiples x n each)) (before.leaves b tt);
        all = λ picked.
            each_conditions there each n found
            ∙ (λ j. flat_map (λ earlier. map (λ y. Some (both earlier (is_number (index j) y))) (numbers_from 0 n)) (each_condition j));
      }

  module _ (law : LoweredHasType) where
    mutual
      pub made_is : (t : Term) (u : LeafType) → HasType held t u → made (types_of held) t ≡ lowered (types_of held) t
      made_is zeros u h = absurd h
      made_is (absent t ps) u h = narrow_is t _ (subst (λ (v : NumTy). v.width ≤ 128) h.0 h.1) ∙ (picks_made ps h.2).indices (zero_of t)
      made_is (literal l) u h = narrow_is (literal_type l) _ (subst IsNarrow h.0 h.1)
      made_is (read b no_picks) u h = refl
      made_is (read b (pick ps p i n each)) u h =
          let whole = pick ps p i n each in
          let index = made_is i (number (record { signed = false; width = h.3.1 })) h.3.2 in
          let made_so = pick_made ps p i n each index (picks_made ps h.3.0) in
          let z = zero_of (types_of held b) in
          let t = types_of held b in
          let found = elements (types_of held) whole in
          let chosen = chosen_by (types_of held) (index_terms (types_of held) whole) z z in
          let is : counted b found ≡ candidates (reached b whole) (conditions (types_of held) whole) = sym (counted_are b whole made_so tt) in
          let other : chosen ≡ unpicked (types_of held) whole z = made_so.indices z in
          narrow_is t _ (subst IsNarrow (sym h.0) h.1) ∙ met_counted (types_of held) b t (without (types_of held) found chosen z) found
          ∙ ap (λ o. first_met (types_of held) t o (counted b found)) (without_counted (types_of held) b found chosen z)
          ∙ (λ j. first_met (types_of held) t (without (types_of held) (is j) (other j) z) (is j))
      made_is (operation op ts ks) u h = ap (λ xs. result (types_of held) op xs ks) (made_each_is ts h.0 h.2)
      made_is (mux c a b) u h =
          let condition = made_is c one_bit h.0 in
          let first = made_is a (number h.1) h.3 in
          let second = made_is b (number h.2) h.4 in
          λ j. net.choice (types_of held) (condition j) (first j) (second j)
      made_is (validif c a) u h =
          let condition = made_is c one_bit h.0 in
          let first = made_is a (number h.1) h.2 in
          let some : a ≡ zeros → ⊥ = λ e. subst (λ (t : Term). HasType held t (number h.1)) e h.2 in
          let of_type : net.term_type (types_of held) (made (types_of held) a) ≡ h.1 =
          ap (net.term_type (types_of held)) first ∙ law held a h.1 h.2 some in
          let narrow : (net.term_type (types_of held) (made (types_of held) a)).width ≤ 128 =
          subst (λ (v : NumTy). v.width ≤ 128) (sym of_type) (typed_narrow a (number h.1) h.2) in
          narrow_is (net.term_type (types_of held) (made (types_of held) a)) _ narrow
          ∙ (λ j. net.choice (types_of held) (condition j) (first j) (zero_of (net.term_type (types_of held) (first j))))

      made_each_is : (ts : Terms) (us : List NumTy) → HaveTypes held ts us → made_each (types_of held) ts ≡ lowered_each (types_of held) ts
      made_each_is no_terms us h = refl
      made_each_is (term t ts) [] h = absurd h
      made_each_is (term t ts) (u ∷ us) h =
          let first = made_is t (number u) h.0 in
          let rest = made_each_is ts us h.1 in
          λ j. net.term (first j) (rest j)

      picks_made : (ps : Picks) → AreIndices held ps → ArePicksMade ps
      picks_made no_picks h = record { indices = λ z. refl; leaves = λ b picked. absurd picked; all = λ picked. absurd picked }
      picks_made (pick ps p i n each) h =
          pick_made ps p i n each (made_is i (number (record { signed = false; width = h.1 })) h.2) (picks_made ps h.0)

    -- the leaves that indices may pick, with their conditions, are the elements, counted from the first leaf
    pub candidates_are : (b : ℕ) (ps : Picks) → AreIndices held ps → IsPicked ps
        → candidates (reached b ps) (conditions (types_of held) ps) ≡ counted b (elements (types_of held) ps)
    candidates_are b ps h picked = counted_are b ps (picks_made ps h) picked
