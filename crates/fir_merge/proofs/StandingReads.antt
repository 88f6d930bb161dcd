-- What is read behind indices stands for what a read makes.
use Rattle.std.proofs.Common.{◌≡◌, ℕ, ◌+◌, ◌-◌, ◌<◌, ◌≤◌, List, [], ◌∷◌, length, take, drop, get_or, Bool, sym, ap, ◌∙◌, subst, arith}
use Rattle.std.proofs.lemmas.List.{drop_more}
use Rattle.fir_bits.specs.Forms.{no_type}
use Rattle.fir_bits.specs.declared.operators.PrimOp.TheVariants.{Orr}
use Rattle.fir_bits.specs.declared.types.NumTy.{NumTy}
use Rattle.fir_meaning.specs.working.TermValues.{Holds}
use Rattle.fir_meaning.specs.working.Terms.{Picks, read, no_picks, pick}
use Rattle.fir_net.specs.declared.node.Node.{Node}
use Rattle.fir_net.specs.declared.reads.Read.TheVariants as leaves
use Rattle.fir_connect.specs.working.Lowered.{Candidate, result, without, zero_of}
use Rattle.fir_connect.specs.working.NetTerms.{NetTerm, leaf, no_terms, term}
use Rattle.fir_merge.specs.declared.bound.Bound.{Bound}
use Rattle.fir_merge.specs.declared.elements.Element.{Element}
use Rattle.fir_merge.specs.declared.index.Index.{Index}
use Rattle.fir_merge.specs.working.Bounds.{ChoiceStands, Grown, MuxStands, StandsFor, ZeroStands, types_in}
use Rattle.fir_merge.specs.working.Elements.{ElementsStand}
use Rattle.fir_merge.specs.working.Entries.{IndicesStand}
use Rattle.fir_merge.specs.working.Made.{chosen_by, elements, first_met_from, index_terms, made, narrow_or_none}
use Rattle.fir_merge.specs.working.NodeTerms.{Grows, IsBelow}
use Rattle.fir_merge.specs.working.Reads.{AbsentStands, AnyStands, ChosenStands, FirstMetStands, ReadStands, UnpickedStands}
use Rattle.fir_merge.proofs.GrownEntries.{elements_later, indices_later}
use Rattle.fir_merge.proofs.GrownTerms.{grows_more}
use Rattle.fir_merge.proofs.MadeTerms.{chosen_more}
use Rattle.fir_merge.proofs.NarrowChoices.{narrow_stands, wide_stands}
use Rattle.fir_merge.proofs.StandingElements.{AddsAll, rest_is}
use Rattle.fir_merge.proofs.StandingValues.{stands_later}

-- behind one more index
pub chosen_index : (old middle later new : List Node) (x : Index) (xs : List Index) (value chosen any r : Bound) → Grows old middle
    → ChosenStands old middle xs value chosen → Grows middle later → AnyStands middle later x any → ChoiceStands later new any chosen value r
    → ChosenStands old new (x ∷ xs) value r
chosen_index old middle later new x xs value chosen any r g others h any_is choice_is = λ holds ps t value_is all. by holds ps t value_is all
  where
    by : (holds : Holds) (ps : Picks) (t : NetTerm) → StandsFor holds old value t → IndicesStand holds old (x ∷ xs) ps
        → StandsFor holds new r (chosen_by holds (index_terms holds ps) t t)
    by holds no_picks t value_is all = absurd all
    by holds (pick ps p i n each) t value_is all =
        let before = chosen_by holds (index_terms holds ps) t t in
        let chosen_is = stands_later holds middle later chosen before h (others holds ps t value_is all.3) in
        let test = any_is holds (made holds i) (stands_later holds old middle x.bound (made holds i) g all.0) in
        let there = stands_later holds old later value t (grows_more old middle later g h) value_is in
        subst (λ (u : NetTerm). StandsFor holds new r u) (sym (chosen_more holds (index_terms holds ps) (made holds i) t t))
        (choice_is holds (result holds Orr (term (made holds i) no_terms) []) before t test chosen_is there)

pub chosen_whole : (old middle later new : List Node) (all : List Index) (x : Index) (value chosen any r : Bound) → 1 ≤ length all → x ≡ get_or all 0 x
    → Grows old middle → ChosenStands old middle (take (length all - 1) (drop 1 all)) value chosen → Grows middle later → AnyStands middle later x any
    → ChoiceStands later new any chosen value r → ChosenStands old new all value r
chosen_whole old middle later new [] x value chosen any r some is g others h any_is choice_is = absurd (omega arith)
chosen_whole old middle later new (y ∷ xs) x value chosen any r some is g others h any_is choice_is =
    subst (λ (w : Index). ChosenStands old new (w ∷ xs) value r) is
    (chosen_index old middle later new x xs value chosen any r g
    (subst (λ (l : List Index). ChosenStands old middle l value chosen) (rest_is (y ∷ xs) some) others) h any_is choice_is)

-- where an element is
pub unpicked_some : (net : List Node) (indices : List Index) (es : List Element) (zero : Bound) → 1 ≤ length es → UnpickedStands net net indices es zero zero
unpicked_some net indices [] zero some = absurd (omega arith)
unpicked_some net indices (e ∷ es) zero some = λ holds ps cs z zero_is all found. by holds ps cs z zero_is found
  where
    by : (holds : Holds) (ps : Picks) (cs : List Candidate) (z : NetTerm) → StandsFor holds net zero z → ElementsStand holds net (e ∷ es) cs
        → StandsFor holds net zero (without holds cs (chosen_by holds (index_terms holds ps) z z) z)
    by holds ps [] z zero_is found = absurd found
    by holds ps (c ∷ cs) z zero_is found = zero_is

-- the first that is met of the elements from one on
pub record MetFrom (old new : List Node) (ty : NumTy) (b : ℕ) (es : List Element) (other : Bound) (left : ℕ) (met : Bound) : Type 0 where
  pub grows : Grows old new
  pub below : IsBelow (length new) met.read
  pub stand : (holds : Holds) (cs : List Candidate) (t : NetTerm) → StandsFor holds old other t → ElementsStand holds old (drop left es) cs
      → StandsFor holds new met (first_met_from holds b ty t cs)

pub met_one : (old middle new : List Node) (ty : NumTy) (b : ℕ) (es : List Element) (other : Bound) (left next number : ℕ) (met r : Bound) (e : Element)
    → MetFrom old middle ty b es other left met → left ≡ next + 1 → next < length es → e ≡ get_or es next e → number ≡ b + e.offset → Grown middle new r
    → MuxStands middle new e.condition.read (leaves.Leaf number) met.read ty r → MetFrom old new ty b es other next r
met_one old middle new ty b es other left next number met r e h step within is at g s =
    let here : drop next es ≡ e ∷ drop left es =
    drop_more es next e within ∙ (λ j. sym is j ∷ drop (sym step j) es) in
    record {
      grows = grows_more old middle new h.grows g.grows;
      below = g.below;
      stand = λ holds cs t other_is found. by holds cs t other_is (subst (λ (l : List Element). ElementsStand holds old l cs) here found);
    }
  where
    by : (holds : Holds) (cs : List Candidate) (t : NetTerm) → StandsFor holds old other t → ElementsStand holds old (e ∷ drop left es) cs
        → StandsFor holds new r (first_met_from holds b ty t cs)
    by holds [] t other_is found = absurd found
    by holds (c ∷ cs) t other_is found =
        let condition = stands_later holds old middle e.condition c.condition h.grows found.1 in
        let rest = h.stand holds cs t other_is found.2 in
        let same : number ≡ b + c.number = at ∙ ap (λ n. b + n) found.0 in
        s holds c.condition (leaf (b + c.number)) (first_met_from holds b ty t cs) condition.term (ap leaf same) rest.term

pub met_all : (old new : List Node) (ty : NumTy) (b : ℕ) (es : List Element) (other : Bound) (left : ℕ) (met : Bound)
    → MetFrom old new ty b es other left met → left ≤ 0 → FirstMetStands old new ty b es other met
met_all old new ty b es other left met h none = λ holds cs t other_is found.
    let first : left ≡ 0 = omega arith in
    h.stand holds cs t other_is (subst (λ (n : ℕ). ElementsStand holds old (drop n es) cs) (sym first) found)

-- what is wider than 128 bits
pub read_wide : (net : List Node) (types : List NumTy) (b : ℕ) (t : NumTy) (indices : List Index) (nothing : Bound) → 1 ≤ length indices → t ≡ types_in types b
    → 128 < t.width → ReadStands net net types b indices nothing nothing
read_wide net types b t [] nothing some is wide = absurd (omega arith)
read_wide net types b t (x ∷ xs) nothing some is wide = λ ps nothing_is all. by ps nothing_is all
  where
    by : (ps : Picks) → StandsFor (types_in types) net nothing (zero_of no_type) → IndicesStand (types_in types) net (x ∷ xs) ps
        → StandsFor (types_in types) net nothing (made (types_in types) (read b ps))
    by no_picks nothing_is all = absurd all
    by (pick ps p i n each) nothing_is all =
        wide_stands (types_in types) net nothing (types_in types b) _ (subst (λ (u : NumTy). 128 < u.width) is wide) nothing_is

-- the element that indices pick
pub read_picked : (old first second third new : List Node) (types : List NumTy) (b : ℕ) (t : NumTy) (indices : List Index) (es : List Element)
    (nothing zero other r : Bound) → 1 ≤ length indices → t ≡ types_in types b → t.width ≤ 128 → AddsAll old first indices es → Grows first second
    → ZeroStands second t zero → Grows second third → UnpickedStands second third indices es zero other → FirstMetStands third new t b es other r
    → ReadStands old new types b indices nothing r
read_picked old first second third new types b t [] es nothing zero other r some is narrow found g zero_is h unpicked met = absurd (omega arith)
read_picked old first second third new types b t (x ∷ xs) es nothing zero other r some is narrow found g zero_is h unpicked met =
    λ ps nothing_is all. by ps all
  where
    by : (ps : Picks) → IndicesStand (types_in types) old (x ∷ xs) ps → StandsFor (types_in types) new r (made (types_in types) (read b ps))
    by no_picks all = absurd all
    by (pick ps p i n each) all =
        let holds = types_in types in
        let whole = pick ps p i n each in
        let cs = elements holds whole in
        let z = zero_of t in
        let there = elements_later holds first second es cs g (found.stand holds whole all) in
        let indices_are = indices_later holds old second (x ∷ xs) whole (grows_more old first second found.grows g) all in
        let other_is = unpicked holds whole cs z (zero_is holds) indices_are there in
        let found_is = met holds cs (without holds cs (chosen_by holds (index_terms holds whole) z z) z) other_is
        (elements_later holds second third es cs h there) in
        subst (λ (u : NumTy). StandsFor holds new r (narrow_or_none u
        (first_met_from holds b u (without holds cs (chosen_by holds (index_terms holds whole) (zero_of u) (zero_of u)) (zero_of u)) cs))) is
        (narrow_stands holds new r t _ narrow found_is)

-- a leaf that is not there, of no more than 128 bits
pub absent_narrow : (old middle new : List Node) (signed : Bool) (width : ℕ) (t : NumTy) (indices : List Index) (nothing zero r : Bound) → width ≤ 128
    → t ≡ record { signed = signed; width = width } → Grows old middle → ZeroStands middle t zero → ChosenStands middle new indices zero r
    → AbsentStands old new signed width indices nothing r
absent_narrow old middle new signed width t indices nothing zero r narrow is g zero_is chosen = λ holds ps nothing_is all.
    let made_so = chosen holds ps (zero_of t) (zero_is holds) (indices_later holds old middle indices ps g all) in
    subst (λ (u : NumTy). StandsFor holds new r (narrow_or_none u (chosen_by holds (index_terms holds ps) (zero_of u) (zero_of u)))) is
    (narrow_stands holds new r t _ (subst (λ (u : NumTy). u.width ≤ 128) (sym is) narrow) made_so)
