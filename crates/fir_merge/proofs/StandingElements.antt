-- The elements that indices may pick, one element and one index after another.
use Rattle.std.proofs.Common.{◌≡◌, ℕ, zero, suc, ◌+◌, ◌-◌, ◌<◌, ◌≤◌, List, [], ◌∷◌, ◌++◌, length, take, drop, get_or, Option, Some, None, refl, sym, ap, ◌∙◌, subst, arith, append_assoc, append-nil}
use Rattle.std.proofs.Math.Seq.{take-length}
use Rattle.std.proofs.lemmas.Grind.{flat_map-append}
use Rattle.fir_meaning.specs.working.TermValues.{Holds}
use Rattle.fir_meaning.specs.working.Terms.{Picks, no_picks, pick}
use Rattle.fir_net.specs.declared.node.Node.{Node}
use Rattle.fir_connect.specs.working.Lowered.{Candidate, both, is_number}
use Rattle.fir_connect.specs.working.NetTerms.{NetTerm}
use Rattle.fir_merge.specs.declared.bound.Bound.{Bound}
use Rattle.fir_merge.specs.declared.elements.Element.{Element}
use Rattle.fir_merge.specs.declared.index.Index.{Index}
use Rattle.fir_merge.specs.working.Bounds.{Grown, StandsFor}
use Rattle.fir_merge.specs.working.Conditions.{ConditionStands, EarlierStands}
use Rattle.fir_merge.specs.working.Elements.{AddsElements, AddsFurther, ElementsBelow, ElementsStand}
use Rattle.fir_merge.specs.working.Entries.{IndicesStand}
use Rattle.fir_merge.specs.working.Made.{elements, further, further_each, made}
use Rattle.fir_merge.specs.working.NodeTerms.{Grows, IsBelow}
use Rattle.fir_merge.proofs.GrownEntries.{elements_below_later, elements_later}
use Rattle.fir_merge.proofs.GrownTerms.{grows_more}
use Rattle.fir_merge.proofs.StandingValues.{stands_later}

pub elements_below_both : (n : ℕ) (xs ys : List Element) → ElementsBelow n xs → ElementsBelow n ys → ElementsBelow n (xs ++ ys)
elements_below_both n [] ys h k = k
elements_below_both n (x ∷ xs) ys h k = (h.0, elements_below_both n xs ys h.1 k)

pub elements_both : (holds : Holds) (net : List Node) (xs ys : List Element) (cs ds : List Candidate) → ElementsStand holds net xs cs
    → ElementsStand holds net ys ds → ElementsStand holds net (xs ++ ys) (cs ++ ds)
elements_both holds net [] ys [] ds h k = k
elements_both holds net [] ys (c ∷ cs) ds h k = absurd h
elements_both holds net (x ∷ xs) ys [] ds h k = absurd h
elements_both holds net (x ∷ xs) ys (c ∷ cs) ds h k = (h.0, h.1, elements_both holds net xs ys cs ds h.2 k)

below_there : (n : ℕ) (es : List Element) (k : ℕ) (e : Element) → ElementsBelow n es → k < length es → IsBelow n (get_or es k e).condition.read
below_there n [] k e h lt = absurd (omega arith)
below_there n (d ∷ es) zero e h lt = h.0
below_there n (d ∷ es) (suc k) e h lt = below_there n es k e h.1 (omega arith)

pub element_below : (n : ℕ) (es : List Element) (k : ℕ) (e : Element) → ElementsBelow n es → k < length es → e ≡ get_or es k e → IsBelow n e.condition.read
element_below n es k e h lt is = subst (λ (d : Element). IsBelow n d.condition.read) (sym is) (below_there n es k e h lt)

-- the last of some
record IsLast (holds : Holds) (net : List Node) (xs : List Element) (x : Element) (all : List Candidate) : Type 0 where
  before : List Candidate
  last : Candidate
  is : all ≡ before ++ last ∷ []
  others : ElementsStand holds net xs before
  offset : x.offset ≡ last.number
  condition : StandsFor holds net x.condition last.condition

last_stands : (holds : Holds) (net : List Node) (xs : List Element) (x : Element) (all : List Candidate) → ElementsStand holds net (xs ++ x ∷ []) all
    → IsLast holds net xs x all
last_stands holds net [] x [] h = absurd h
last_stands holds net [] x (c ∷ []) h = record { before = []; last = c; is = refl; others = tt; offset = h.0; condition = h.1 }
last_stands holds net [] x (c ∷ d ∷ cs) h = absurd h.2
last_stands holds net (y ∷ xs) x [] h = absurd h
last_stands holds net (y ∷ xs) x (c ∷ cs) h =
    let r = last_stands holds net xs x cs h.2 in
    record { before = c ∷ r.before; last = r.last; is = ap (λ rest. c ∷ rest) r.is; others = (h.0, h.1, r.others); offset = r.offset; condition = r.condition }

-- elements of an index up to one of a number, and what the others are
pub record StandSoFar (holds : Holds) (net : List Node) (e : Option NetTerm) (first : ℕ) (i : NetTerm) (each n next number : ℕ) (added : List Element)
    : Type 0 where
  pub found : List Candidate
  pub stand : ElementsStand holds net added found
  pub rest : (left : ℕ) → number + left ≡ n → further e first i each 0 n ≡ found ++ further e next i each number left

pub record AddsSoFar (old new : List Node) (earlier : Option Bound) (first : ℕ) (index : Index) (before after : List Element) (next number : ℕ) : Type 0 where
  pub grows : Grows old new
  pub added : List Element
  pub is : after ≡ before ++ added
  pub below : ElementsBelow (length new) added
  pub stand : (holds : Holds) (e : Option NetTerm) (i : NetTerm) → EarlierStands holds old earlier e → StandsFor holds old index.bound i
      → StandSoFar holds new e first i index.stride index.length next number added

pub earlier_later : (holds : Holds) (old new : List Node) (b : Option Bound) (t : Option NetTerm) → Grows old new → EarlierStands holds old b t
    → EarlierStands holds new b t
earlier_later holds old new None None g h = tt
earlier_later holds old new None (Some t) g h = absurd h
earlier_later holds old new (Some b) None g h = absurd h
earlier_later holds old new (Some b) (Some t) g h = stands_later holds old new b t g h

-- one more
pub adds_one : (old middle new : List Node) (earlier : Option Bound) (first : ℕ) (index : Index) (before after later : List Element)
    (offset number next : ℕ) (r : Bound) → AddsSoFar old middle earlier first index before after offset number → Grown middle new r → ConditionStands middle new earlier index.bound number r
    → later ≡ after ++ record { offset = offset; condition = r } ∷ [] → next ≡ offset + index.stride
    → AddsSoFar old new earlier first index before later next (number + 1)
adds_one old middle new earlier first index before after later offset number next r h g s is step =
    let one : List Element = record { offset = offset; condition = r } ∷ [] in
    record {
      grows = grows_more old middle new h.grows g.grows;
      added = h.added ++ one;
      is = is ∙ ap (λ (l : List Element). l ++ one) h.is ∙ append_assoc before h.added one;
      below = elements_below_both (length new) h.added one (elements_below_later middle new h.added g.grows h.below) (g.below, tt);
      stand = λ holds e i earlier_is index_is.
          let so_far = h.stand holds e i earlier_is index_is in
          let here = s holds e i (earlier_later holds old middle earlier e h.grows earlier_is) (stands_later holds old middle index.bound i h.grows index_is) in
          let c : Candidate = record { number = offset; condition = both e (is_number i number) } in
          let others = elements_later holds middle new h.added so_far.found g.grows so_far.stand in
          record {
            found = so_far.found ++ c ∷ [];
            stand = elements_both holds new h.added one so_far.found (c ∷ []) others (refl, here, tt);
            rest = λ left whole.
                let all : further e first i index.stride 0 index.length ≡ so_far.found ++ further e offset i index.stride number (suc left) =
                so_far.rest (suc left) (omega arith) in
                let at : suc number ≡ number + 1 = omega arith in
                all ∙ sym (append_assoc so_far.found (c ∷ []) (further e (offset + index.stride) i index.stride (suc number) left))
                ∙ (λ j. (so_far.found ++ c ∷ []) ++ further e (sym step j) i index.stride (at j) left);
          };
    }

-- all
pub adds_all : (old new : List Node) (earlier : Option Bound) (first : ℕ) (index : Index) (before after : List Element) (offset number : ℕ)
    → AddsSoFar old new earlier first index before after offset number → number ≡ index.length → AddsElements old new earlier first index before after
adds_all old new earlier first index before after offset number h whole = record {
  grows = h.grows;
  added = h.added;
  is = h.is;
  below = h.below;
  stand = λ holds e i earlier_is index_is.
      let so_far = h.stand holds e i earlier_is index_is in
      subst (λ (cs : List Candidate). ElementsStand holds new h.added cs) (sym (so_far.rest 0 (omega arith) ∙ append-nil so_far.found)) so_far.stand;
}

-- behind one more
pub further_more : (old middle new : List Node) (found : List Element) (e : Element) (index : Index) (es later : List Element)
    → AddsFurther old middle found index es → AddsElements middle new (Some e.condition) e.offset index es later
    → AddsFurther old new (found ++ e ∷ []) index later
further_more old middle new found e index es later h a = record {
  grows = grows_more old middle new h.grows a.grows;
  below = subst (λ (l : List Element). ElementsBelow (length new) l) (sym a.is)
      (elements_below_both (length new) es a.added (elements_below_later middle new es a.grows h.below) a.below);
  stand = λ holds cs i all index_is.
      let l = last_stands holds old found e cs all in
      let before = further_each i index.stride index.length l.before in
      let others = elements_later holds middle new es before a.grows (h.stand holds l.before i l.others index_is) in
      let here = a.stand holds (Some l.last.condition) i (stands_later holds old middle e.condition l.last.condition h.grows l.condition)
      (stands_later holds old middle index.bound i h.grows index_is) in
      let each = λ (c : Candidate). further (Some c.condition) c.number i index.stride 0 index.length in
      let added = further (Some l.last.condition) e.offset i index.stride 0 index.length in
      let same : further_each i index.stride index.length cs ≡ before ++ added =
      ap (further_each i index.stride index.length) l.is ∙ flat_map-append each l.before (l.last ∷ [])
      ∙ ap (λ rest. before ++ rest)
      (append-nil (each l.last) ∙ ap (λ x. further (Some l.last.condition) x i index.stride 0 index.length) (sym l.offset)) in
      let both_stand = elements_both holds new es a.added before added others here in
      subst (λ (ds : List Candidate). ElementsStand holds new later ds) (sym same)
      (subst (λ (xs : List Element). ElementsStand holds new xs (before ++ added)) (sym a.is) both_stand);
}

-- what indices make
pub record AddsAll (old new : List Node) (indices : List Index) (es : List Element) : Type 0 where
  pub grows : Grows old new
  pub below : ElementsBelow (length new) es
  pub stand : (holds : Holds) (ps : Picks) → IndicesStand holds old indices ps → ElementsStand holds new es (elements holds ps)

pub all_further : (old middle new : List Node) (x y : Index) (xs : List Index) (found es : List Element) → AddsAll old middle (y ∷ xs) found
    → AddsFurther middle new found x es → AddsAll old new (x ∷ y ∷ xs) es
all_further old middle new x y xs found es h a = record {
  grows = grows_more old middle new h.grows a.grows;
  below = a.below;
  stand = λ holds ps all. by holds ps all;
}
  where
    by : (holds : Holds) (ps : Picks) → IndicesStand holds old (x ∷ y ∷ xs) ps → ElementsStand holds new es (elements holds ps)
    by holds no_picks all = absurd all
    by holds (pick no_picks p i n each) all = absurd all.3
    by holds (pick (pick ps q j m apart) p i n each) all =
        let before = elements holds (pick ps q j m apart) in
        let there = h.stand holds (pick ps q j m apart) all.3 in
        let index_is = stands_later holds old middle x.bound (made holds i) h.grows all.0 in
        subst (λ (k : ℕ). ElementsStand holds new es (further_each (made holds i) each k before)) all.1
        (subst (λ (k : ℕ). ElementsStand holds new es (further_each (made holds i) k x.length before)) all.2
        (a.stand holds before (made holds i) there index_is))

-- all but the first
pub rest_is : {X : Type 0} (xs : List X) → 1 ≤ length xs → take (length xs - 1) (drop 1 xs) ≡ drop 1 xs
rest_is [] some = absurd (omega arith)
rest_is (x ∷ xs) some = let long : length (x ∷ xs) - 1 ≡ length xs = omega arith in ap (λ n. take n xs) long ∙ take-length xs

-- of two indices at least
pub all_whole : (old middle new : List Node) (all : List Index) (x : Index) (found there es : List Element) → 2 ≤ length all → x ≡ get_or all 0 x
    → AddsAll old middle (take (length all - 1) (drop 1 all)) found → there ≡ found → AddsFurther middle new there x es → AddsAll old new all es
all_whole old middle new [] x found there es long is h same a = absurd (omega arith)
all_whole old middle new (y ∷ []) x found there es long is h same a = absurd (omega arith)
all_whole old middle new (y ∷ z ∷ xs) x found there es long is h same a =
    let rest = rest_is (y ∷ z ∷ xs) (omega arith) in
    subst (λ (w : Index). AddsAll old new (w ∷ z ∷ xs) es) is
    (all_further old middle new x z xs found es (subst (λ (l : List Index). AddsAll old middle l found) rest h)
    (subst (λ (l : List Element). AddsFurther middle new l x es) same a))
