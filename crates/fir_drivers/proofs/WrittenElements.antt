-- Elements of a leaf that are written one after another.
use Rattle.std.proofs.Common.{◌≡◌, ℕ, zero, suc, ◌+◌, ◌<◌, List, [], ◌∷◌, ◌++◌, Bool, true, false, if◌then◌else◌, length, map, take, get_or, Some, refl, sym, ap, ◌∙◌, subst, nat_eq, arith}
use Rattle.std.specs.Prelude.{unwrap_or}
use Rattle.std.proofs.lemmas.Bool.{eqb-true}
use Rattle.std.proofs.lemmas.List.{map-append, take_more}
use Rattle.fir_meaning.specs.working.TermValues.{Holds}
use Rattle.fir_net.specs.declared.node.Node.{Node}
use Rattle.fir_connect.specs.working.Drivers.{through}
use Rattle.fir_connect.specs.working.Lowered.{Candidate}
use Rattle.fir_connect.specs.working.NetTerms.{NetTerm, choice}
use Rattle.fir_merge.specs.declared.bound.Bound.{Bound}
use Rattle.fir_merge.specs.declared.elements.Element.{Element}
use Rattle.fir_merge.specs.working.Bounds.{ChoiceStands, StandsFor}
use Rattle.fir_merge.specs.working.Elements.{ElementsBelow, ElementsStand}
use Rattle.fir_merge.specs.working.NodeTerms.{Grows, IsBelow}
use Rattle.fir_merge.proofs.StandingValues.{stands_later}
use Rattle.fir_drivers.specs.working.Slots.{SlotStands, SlotsBecome, slot_at}
use Rattle.fir_drivers.specs.working.Walks.{Walks, WritesElements, counted_from}
use Rattle.fir_drivers.proofs.SlotSteps.{slot_later}
use Rattle.fir_drivers.proofs.ThroughCandidates.{through_push}

pub condition_below : (n : ℕ) (es : List Element) (i : ℕ) (e : Element) → ElementsBelow n es → i < length es → e ≡ get_or es i e → IsBelow n e.condition.read
condition_below n [] i e h lt is = absurd (omega arith)
condition_below n (a ∷ es) zero e h lt is = subst (λ (z : Element). IsBelow n z.condition.read) (sym is) h.0
condition_below n (a ∷ es) (suc i) e h lt is = condition_below n es i e h.1 (omega arith) is

-- candidates of elements, the last apart
record Split (holds : Holds) (net : List Node) (es : List Element) (e : Element) (cs : List Candidate) : Type 0 where
  front : List Candidate
  last : Candidate
  is : cs ≡ front ++ last ∷ []
  stand : ElementsStand holds net es front
  offset : e.offset ≡ last.number
  condition : StandsFor holds net e.condition last.condition

split : (holds : Holds) (net : List Node) (es : List Element) (e : Element) (cs : List Candidate) → ElementsStand holds net (es ++ e ∷ []) cs
    → Split holds net es e cs
split holds net [] e [] h = absurd h
split holds net [] e (c ∷ []) h = record { front = []; last = c; is = refl; stand = tt; offset = h.0; condition = h.1 }
split holds net [] e (c ∷ d ∷ cs) h = absurd h.2
split holds net (a ∷ es) e [] h = absurd h
split holds net (a ∷ es) e (c ∷ cs) h =
    let r = split holds net es e cs h.2 in
    record {
      front = c ∷ r.front;
      last = r.last;
      is = ap (λ (l : List Candidate). c ∷ l) r.is;
      stand = (h.0, h.1, r.stand);
      offset = r.offset;
      condition = r.condition;
    }

-- none is written
pub writes_none : (net : List Node) (slots : List Bound) (leaf : ℕ) (r : Bound) → WritesElements net net slots slots leaf [] r
writes_none net slots leaf r = λ holds cs e stand given. by holds cs e stand
  where
    by : (holds : Holds) (cs : List Candidate) (e : NetTerm) → ElementsStand holds net [] cs
        → Walks holds net net slots slots (λ x t. through holds 0 x (map (counted_from leaf) cs) e t)
    by holds [] e stand = record { same_length = refl; each = λ x t h. h }
    by holds (c ∷ cs) e stand = absurd stand

-- one more
module _ (net middle new : List Node) (old slots later : List Bound) (leaf number : ℕ) (es : List Element) (i : ℕ) (e : Element)
    (r before chosen nothing : Bound) (lt : i < length es) (is : e ≡ get_or es i e) (at : number ≡ leaf + e.offset)
    (had : before ≡ slot_at slots nothing number) (first : Grows net middle) (second : Grows middle new)
    (stands : ChoiceStands middle new e.condition r before chosen)
    (becomes : SlotsBecome slots later (λ x b. if nat_eq number x then chosen else b)) where
  module _ (holds : Holds) (given : NetTerm) (of_given : StandsFor holds net r given) (c : NetTerm) (of_c : StandsFor holds net e.condition c) where
    slot_more : (x : ℕ) (t : NetTerm) → SlotStands holds middle slots x t
        → SlotStands holds new later x (if nat_eq number x then choice holds c given t else t)
    slot_more x t h = by (nat_eq number x) refl
      where
        by : (here : Bool) → nat_eq number x ≡ here → SlotStands holds new later x (if here then choice holds c given t else t)
        by false e = slot_later holds middle new slots later x t second (becomes.each x h.bound h.is ∙ ap Some (rw e refl) ∙ sym h.is) h
        by true e =
            let same : number ≡ x = eqb-true number x e in
            let is_before : before ≡ h.bound = had ∙ ap (slot_at slots nothing) same ∙ ap (λ o. unwrap_or o nothing) h.is in
            record {
              bound = chosen;
              is = rw e at (becomes.each x h.bound h.is);
              stands = stands holds c given t (stands_later holds net middle _ c first of_c) (stands_later holds net middle r given first of_given)
                  (subst (λ (b : Bound). StandsFor holds middle b t) (sym is_before) h.stands);
            }

  pub writes_more : WritesElements net middle old slots leaf (take i es) r → WritesElements net new old later leaf (take (i + 1) es) r
  writes_more writes = λ holds cs given stand of_given.
      let one_more : take (i + 1) es ≡ take i es ++ e ∷ [] = take_more es i e lt ∙ ap (λ (z : Element). take i es ++ z ∷ []) (sym is) in
      let parts = split holds net (take i es) e cs (subst (λ (l : List Element). ElementsStand holds net l cs) one_more stand) in
      let walks = writes holds parts.front given parts.stand of_given in
      let number_is : number ≡ leaf + parts.last.number = at ∙ ap (λ k. leaf + k) parts.offset in
      let counted : map (counted_from leaf) cs ≡ map (counted_from leaf) parts.front ++ counted_from leaf parts.last ∷ [] =
      ap (map (counted_from leaf)) parts.is ∙ map-append (counted_from leaf) parts.front (parts.last ∷ []) in
      record {
        same_length = becomes.same_length ∙ walks.same_length;
        each = λ x t h.
            let so_far = through holds 0 x (map (counted_from leaf) parts.front) given t in
            let there = slot_more holds given of_given parts.last.condition parts.condition x so_far (walks.each x t h) in
            let is_term : (if nat_eq number x then choice holds parts.last.condition given so_far else so_far)
            ≡ through holds 0 x (map (counted_from leaf) cs) given t =
            ap (λ (k : ℕ). if nat_eq k x then choice holds parts.last.condition given so_far else so_far) number_is
            ∙ sym (through_push holds 0 x (map (counted_from leaf) parts.front) (counted_from leaf parts.last) given t)
            ∙ ap (λ (l : List Candidate). through holds 0 x l given t) (sym counted) in
            subst (SlotStands holds new later x) is_term there;
      }
