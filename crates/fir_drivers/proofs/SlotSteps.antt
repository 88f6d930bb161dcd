-- Slots that change one after another.
use Rattle.std.proofs.Common.{◌≡◌, ℕ, ◌+◌, ◌<◌, ◌≤◌, List, Bool, true, false, ◌||◌, if◌then◌else◌, length, take, get_or, map, min, Some, None, refl, sym, ap, ◌∙◌, subst, nat_eq, arith, ⊎_elim}
use Rattle.std.specs.Prelude.{slice_get}
use Rattle.std.proofs.lemmas.Bool.{cases_Bool, eqb-true}
use Rattle.std.proofs.lemmas.List.{get_or-map, length-map, take_all}
use Rattle.std.proofs.lemmas.Option.{same_Some, slice_get-get_or, slice_get_cases, slice_get_past, slice_get_within}
use Rattle.fir_meaning.specs.working.TermReads.{is_among}
use Rattle.fir_meaning.specs.working.TermValues.{Holds}
use Rattle.fir_net.specs.declared.node.Node.{Node}
use Rattle.fir_connect.specs.working.NetTerms.{NetTerm, choice}
use Rattle.fir_driven.proofs.AmongLeaves.{among_more}
use Rattle.fir_merge.specs.declared.bound.Bound.{Bound}
use Rattle.fir_merge.specs.working.Bounds.{ChoiceStands, StandsFor}
use Rattle.fir_merge.specs.working.Entries.{BoundsBelow}
use Rattle.fir_merge.specs.working.NodeTerms.{Grows, IsBelow}
use Rattle.fir_merge.proofs.GrownTerms.{grows_more}
use Rattle.fir_merge.proofs.StandingValues.{stands_later}
use Rattle.fir_drivers.specs.working.Slots.{Merges, PutsBack, SlotStands, SlotsBecome}
use Rattle.fir_drivers.proofs.BelowBounds.{below_at, below_each}

pub become_then : (a b c : List Bound) (f g h : ℕ → Bound → Bound) → SlotsBecome a b f → SlotsBecome b c g
    → ((x : ℕ) (was : Bound) → g x (f x was) ≡ h x was) → SlotsBecome a c h
become_then a b c f g h p q e = record {
  same_length = q.same_length ∙ p.same_length;
  each = λ x was is. q.each x (f x was) (p.each x was is) ∙ ap Some (e x was);
}

-- a slot that is left as it was, also where there is none
pub become_same : (a b : List Bound) (now : ℕ → Bound → Bound) (x : ℕ) → SlotsBecome a b now → ((was : Bound) → now x was ≡ was) → slice_get b x ≡ slice_get a x
become_same a b now x p same =
    ⊎_elim
    (λ (h : (z : Bound) × (x < length a) × (slice_get a x ≡ Some z) × (get_or a x z ≡ z)). p.each x h.0 h.2 ∙ ap Some (same h.0) ∙ sym h.2)
    (λ (h : (length a ≤ x) × (slice_get a x ≡ None)). let past : length b ≤ x = omega (arith, h.0, p.same_length) in slice_get_past b x past ∙ sym h.1)
    (slice_get_cases a x).1

-- where one leaf gets a bound, all are still below
pub below_become : (n : ℕ) (a b : List Bound) (leaf : ℕ) (bound : Bound) → BoundsBelow n a → IsBelow n bound.read
    → SlotsBecome a b (λ x was. if nat_eq leaf x then bound else was) → BoundsBelow n b
below_become n a b leaf bound h k p = below_each n b each
  where
    either : (here : Bool) (was : Bound) → IsBelow n was.read → IsBelow n (if here then bound else was).read
    either true was e = k
    either false was e = e

    each : (x : ℕ) (z : Bound) → slice_get b x ≡ Some z → IsBelow n z.read
    each x z e =
        let lt : x < length a = omega (arith, slice_get_within b x z e, p.same_length) in
        let was = get_or a x bound in
        let is : slice_get a x ≡ Some was = slice_get-get_or a x bound lt in
        let same : (if nat_eq leaf x then bound else was) ≡ z = same_Some _ _ (sym (p.each x was is) ∙ e) in
        subst (λ (y : Bound). IsBelow n y.read) same (either (nat_eq leaf x) was (below_at n a x was h is))

-- and where some get back what they had
pub below_put : (n : ℕ) (a b : List Bound) (leaves : List ℕ) (f : ℕ → Bound) → BoundsBelow n a → ((x : ℕ) → IsBelow n (f x).read) → PutsBack a b leaves f
    → BoundsBelow n b
below_put n a b leaves f h k p = below_each n b each
  where
    either : (here : Bool) (x : ℕ) (was : Bound) → IsBelow n was.read → IsBelow n (if here then f x else was).read
    either true x was e = k x
    either false x was e = e

    each : (x : ℕ) (z : Bound) → slice_get b x ≡ Some z → IsBelow n z.read
    each x z e =
        let lt : x < length a = omega (arith, slice_get_within b x z e, p.same_length) in
        let was = get_or a x z in
        let is : slice_get a x ≡ Some was = slice_get-get_or a x z lt in
        let same : (if is_among leaves x then f x else was) ≡ z = same_Some _ _ (sym (p.each x was is) ∙ e) in
        subst (λ (y : Bound). IsBelow n y.read) same (either (is_among leaves x) x was (below_at n a x was h is))

-- one more gets back what it had
put_here : (here among : Bool) (bound there was : Bound) → (here ≡ true → bound ≡ there)
    → (if here then bound else if among then there else was) ≡ (if among || here then there else was)
put_here true true bound there was e = e refl
put_here true false bound there was e = e refl
put_here false true bound there was e = refl
put_here false false bound there was e = refl

pub put_more : (a b c : List Bound) (xs : List ℕ) (bs : List Bound) (i leaf : ℕ) (bound : Bound) (f : ℕ → Bound) → bs ≡ map f xs → i < length xs
    → leaf ≡ get_or xs i leaf → bound ≡ get_or bs i bound → PutsBack a b (take i xs) f → SlotsBecome b c (λ x was. if nat_eq leaf x then bound else was)
    → PutsBack a c (take (i + 1) xs) f
put_more a b c xs bs i leaf bound f are lt at is p q =
    let same : bound ≡ f leaf = is ∙ ap (λ l. get_or l i bound) are ∙ get_or-map f xs i leaf bound lt ∙ ap f (sym at) in
    become_then a b c _ _ _ p q
    (λ x was. rw (among_more xs i leaf x lt, ← at) (put_here (nat_eq leaf x) (is_among (take i xs) x) bound (f x) was (λ e. same ∙ ap f (eqb-true leaf x e))))

pub put_back_all : (a b : List Bound) (xs : List ℕ) (bs : List Bound) (i : ℕ) (f : ℕ → Bound) → bs ≡ map f xs → i ≡ min (length xs) (length bs)
    → PutsBack a b (take i xs) f → PutsBack a b xs f
put_back_all a b xs bs i f are end p =
    let whole : length xs ≤ i = omega (arith, end, ap length are, length-map xs f) in
    subst (λ (ys : List ℕ). PutsBack a b ys f) (take_all i xs whole) p

-- a slot keeps standing for its term where nodes are added
pub slot_later : (holds : Holds) (net new : List Node) (slots later : List Bound) (x : ℕ) (t : NetTerm) → Grows net new
    → slice_get later x ≡ slice_get slots x → SlotStands holds net slots x t → SlotStands holds new later x t
slot_later holds net new slots later x t g same h =
    record { bound = h.bound; is = same ∙ h.is; stands = stands_later holds net new h.bound t g h.stands }

module _ (net middle new : List Node) (old slots later : List Bound) (condition chosen : Bound) (xs : List ℕ) (i d : ℕ) (f g : ℕ → Bound)
    (lt : i < length xs) (merges : Merges net middle old slots condition (take i xs) f g) (grows : Grows middle new)
    (stands : ChoiceStands middle new condition (f (get_or xs i d)) (g (get_or xs i d)) chosen)
    (becomes : SlotsBecome slots later (λ x b. if nat_eq (get_or xs i d) x then chosen else b)) where
  apart : (x : ℕ) → nat_eq (get_or xs i d) x ≡ false → slice_get later x ≡ slice_get slots x
  apart x e = become_same slots later _ x becomes (λ was. rw e refl)

  module _ (holds : Holds) (x : ℕ) (c a b : NetTerm) (within : x < length old) (of_c : StandsFor holds net condition c)
      (of_a : StandsFor holds net (f x) a) (of_b : StandsFor holds net (g x) b) where
    here : nat_eq (get_or xs i d) x ≡ true → SlotStands holds new later x (choice holds c a b)
    here e =
        let same : get_or xs i d ≡ x = eqb-true _ _ e in
        let there : x < length slots = omega (arith, merges.same_length) in
        let at = becomes.each x (get_or slots x chosen) (slice_get-get_or slots x chosen there) in
        let first = subst (λ (y : ℕ). StandsFor holds net (f y) a) (sym same) of_a in
        let second = subst (λ (y : ℕ). StandsFor holds net (g y) b) (sym same) of_b in
        record {
          bound = chosen;
          is = rw e at at;
          stands = stands holds c a b (stands_later holds net middle condition c merges.grows of_c)
              (stands_later holds net middle (f (get_or xs i d)) a merges.grows first)
              (stands_later holds net middle (g (get_or xs i d)) b merges.grows second);
        }

    pub chosen_more : is_among (take (i + 1) xs) x ≡ true → SlotStands holds new later x (choice holds c a b)
    chosen_more among =
        ⊎_elim here
        (λ (e : nat_eq (get_or xs i d) x ≡ false).
        let before : is_among (take i xs) x ≡ true = grind (arith, among_more xs i d x lt, among, e) in
        slot_later holds middle new slots later x (choice holds c a b) grows (apart x e) (merges.chosen holds x c a b within before of_c of_a of_b))
        (cases_Bool (nat_eq (get_or xs i d) x))

  pub merges_more : Merges net new old later condition (take (i + 1) xs) f g
  merges_more = record {
    grows = grows_more net middle new merges.grows grows;
    same_length = becomes.same_length ∙ merges.same_length;
    chosen = λ holds x c a b within among of_c of_a of_b. chosen_more holds x c a b within of_c of_a of_b among;
    others = λ x none.
        let not_before : is_among (take i xs) x ≡ false = grind (arith, among_more xs i d x lt, none) in
        let not_here : nat_eq (get_or xs i d) x ≡ false = grind (arith, among_more xs i d x lt, none) in
        apart x not_here ∙ merges.others x not_before;
  }

-- the same by the lists of bounds
pub merges_at : (net middle new : List Node) (old slots later : List Bound) (condition chosen : Bound) (xs : List ℕ) (ps qs : List Bound) (i d : ℕ)
    (a b : Bound) (f g : ℕ → Bound) → i < length xs → ps ≡ map f xs → qs ≡ map g xs → a ≡ get_or ps i a → b ≡ get_or qs i b
    → Merges net middle old slots condition (take i xs) f g → Grows middle new → ChoiceStands middle new condition a b chosen
    → SlotsBecome slots later (λ x was. if nat_eq (get_or xs i d) x then chosen else was) → Merges net new old later condition (take (i + 1) xs) f g
merges_at net middle new old slots later condition chosen xs ps qs i d a b f g lt first second at_a at_b merges grows stands becomes =
    let one : a ≡ f (get_or xs i d) = at_a ∙ ap (λ l. get_or l i a) first ∙ get_or-map f xs i d a lt in
    let other : b ≡ g (get_or xs i d) = at_b ∙ ap (λ l. get_or l i b) second ∙ get_or-map g xs i d b lt in
    merges_more net middle new old slots later condition chosen xs i d f g lt merges grows
    (subst (λ (z : Bound). ChoiceStands middle new condition (f (get_or xs i d)) z chosen) other
    (subst (λ (z : Bound). ChoiceStands middle new condition z b chosen) one stands))
    becomes
