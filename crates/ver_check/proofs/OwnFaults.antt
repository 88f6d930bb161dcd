-- What an operand shows itself: nothing where it has as many bits as are needed and fits, and the other way round.
use Rattle.std.proofs.Common.{◌≡◌, ℕ, ◌+◌, ◌<◌, ◌≤◌, ◌^◌, List, [], ◌∷◌, ◌++◌, Bool, true, false, refl, sym, ap, ◌∙◌, subst, arith}
use Rattle.std.specs.Prelude.{Option, Some, None, nat_eq, nat_lt, ◌&&◌, if◌then◌else◌}
use Rattle.std.proofs.lemmas.Bool.{and_from, and_parts, eq-eqb, eqb-true, lt-ltb, ltb-true}
use Rattle.ver_ast.specs.declared.place.VPlace.{VPlace}
use Rattle.ver_fault.specs.Faults.{VFault}
use Rattle.ver_valid.specs.working.Declarations.{IsNarrow}
use Rattle.ver_check.specs.declared.kind.Kind.{Kind}
use Rattle.ver_check.specs.FaultForms.{kind_fault, width_fault}
use Rattle.ver_check.specs.Scopes.{found_by}
use Rattle.ver_check.specs.OperandFaults.{is_constant_fit, is_narrow, is_within, lacking_faults, name_faults, own_faults, unfit_faults, width_faults}
use Rattle.ver_check.proofs.Faultless.{first_empty, second_empty}

pub none_of_both : (fs gs : List VFault) → fs ≡ [] → gs ≡ [] → fs ++ gs ≡ []
none_of_both fs gs e h = ap (λ (xs : List VFault). xs ++ gs) e ∙ h

-- a list that may be a first fault is none only by its test
pub tested : (b : Bool) (f : VFault) → (if b then [] else f ∷ []) ≡ [] → b ≡ true
tested true f e = refl
tested false f e = absurd (cc)

pub untested : (b : Bool) (f : VFault) → (if b then f ∷ [] else []) ≡ [] → b ≡ false
untested true f e = absurd (cc)
untested false f e = refl

-- as many bits as are needed, or any
abbrev pub IsMet : Option ℕ → ℕ → Type 0
IsMet None w = Unit {0}
IsMet (Some needed) w = w ≡ needed

lacking_none : (p : VPlace) (o : Option ℕ) → lacking_faults p o ≡ [] → (w : ℕ) × (o ≡ Some w)
lacking_none p None e = absurd (cc)
lacking_none p (Some w) e = (w, refl)

pub named_bits : (bits : Kind → Option ℕ) (p : VPlace) (n : List ℕ) (o : Option Kind) → name_faults bits p n o ≡ [] → (w : ℕ) × (found_by bits o ≡ Some w)
named_bits bits p n None e = absurd (cc)
named_bits bits p n (Some k) e = lacking_none p (bits k) e

pub bits_named : (bits : Kind → Option ℕ) (p : VPlace) (n : List ℕ) (o : Option Kind) (w : ℕ) → found_by bits o ≡ Some w → name_faults bits p n o ≡ []
bits_named bits p n None w e = absurd (cc)
bits_named bits p n (Some k) w e = ap (lacking_faults p) e

pub width_met : (needed : Option ℕ) (w : ℕ) (p : VPlace) → width_faults needed (Some w) p ≡ [] → IsMet needed w
width_met None w p e = tt
width_met (Some x) w p e = by (nat_eq x w) refl e
  where
    never : (b : Bool) → (if b then width_fault p x w ∷ [] else kind_fault p ∷ []) ≡ [] → ⊥
    never true h = cc
    never false h = cc

    by : (b : Bool) → nat_eq x w ≡ b → (if b then [] else if nat_lt w 129 then width_fault p x w ∷ [] else kind_fault p ∷ []) ≡ [] → w ≡ x
    by true s h = sym (eqb-true x w s)
    by false s h = absurd (never (nat_lt w 129) h)

pub met_width : (needed : Option ℕ) (w : ℕ) (p : VPlace) → IsMet needed w → width_faults needed (Some w) p ≡ []
met_width None w p m = refl
met_width (Some x) w p m =
    ap (λ (b : Bool). if b then [] else if nat_lt w 129 then width_fault p x w ∷ [] else kind_fault p ∷ []) (eq-eqb x w (sym m))

fit_is : (b : Bool) (p : VPlace) → unfit_faults b p ≡ [] → b ≡ true
fit_is b p e = tested b _ e

pub own_fit : (needed bits : Option ℕ) (fit : Bool) (p : VPlace) → own_faults needed bits fit p ≡ [] → fit ≡ true
own_fit needed bits fit p e = fit_is fit p (second_empty (width_faults needed bits p) (unfit_faults fit p) e)

pub own_met : (needed bits : Option ℕ) (fit : Bool) (p : VPlace) (w : ℕ) → bits ≡ Some w → own_faults needed bits fit p ≡ [] → IsMet needed w
own_met needed bits fit p w is e =
    width_met needed w p (subst (λ (o : Option ℕ). width_faults needed o p ≡ []) is (first_empty (width_faults needed bits p) (unfit_faults fit p) e))

pub own_none : (needed bits : Option ℕ) (fit : Bool) (p : VPlace) (w : ℕ) → bits ≡ Some w → fit ≡ true → IsMet needed w → own_faults needed bits fit p ≡ []
own_none needed bits fit p w is fits m =
    none_of_both (width_faults needed bits p) (unfit_faults fit p)
    (ap (λ (o : Option ℕ). width_faults needed o p) is ∙ met_width needed w p m)
    (ap (λ (b : Bool). unfit_faults b p) fits)

pub narrow_is : (w : ℕ) → is_narrow w ≡ true → IsNarrow w
narrow_is w e =
    let r = and_parts (nat_lt 0 w) (nat_lt w 129) e in
    let some = ltb-true 0 w r.0 in let few = ltb-true w 129 r.1 in
    (omega arith, omega arith)

pub is_narrow_from : (w : ℕ) → IsNarrow w → is_narrow w ≡ true
is_narrow_from w h =
    let some = h.0 in let few = h.1 in
    and_from (nat_lt 0 w) (nat_lt w 129) (lt-ltb 0 w (omega arith)) (lt-ltb w 129 (omega arith))

pub constant_is : (w x : ℕ) → is_constant_fit w x ≡ true → IsNarrow w × (x < 2 ^ w)
constant_is w x e = let r = and_parts (is_narrow w) (nat_lt x (2 ^ w)) e in (narrow_is w r.0, ltb-true x (2 ^ w) r.1)

pub constant_fits : (w x : ℕ) → IsNarrow w → x < 2 ^ w → is_constant_fit w x ≡ true
constant_fits w x n h = and_from (is_narrow w) (nat_lt x (2 ^ w)) (is_narrow_from w n) (lt-ltb x (2 ^ w) h)

pub within_is : (w hi lo : ℕ) → is_within (Some w) hi lo ≡ true → (2 ≤ w) × (lo ≤ hi) × (hi < w)
within_is w hi lo e =
    let r = and_parts (nat_lt 1 w) (nat_lt lo (hi + 1) && nat_lt hi w) e in
    let s = and_parts (nat_lt lo (hi + 1)) (nat_lt hi w) r.1 in
    let wide = ltb-true 1 w r.0 in let order = ltb-true lo (hi + 1) s.0 in
    (omega arith, omega arith, ltb-true hi w s.1)

pub within_from : (w hi lo : ℕ) → 2 ≤ w → lo ≤ hi → hi < w → is_within (Some w) hi lo ≡ true
within_from w hi lo wide order high =
    and_from (nat_lt 1 w) (nat_lt lo (hi + 1) && nat_lt hi w) (lt-ltb 1 w (omega arith))
    (and_from (nat_lt lo (hi + 1)) (nat_lt hi w) (lt-ltb lo (hi + 1) (omega arith)) (lt-ltb hi w high))
