-- The role of one leaf while modules give roles to leaves: no value yet or one that stands, and one that stands for good once it is given.
use Rattle.std.proofs.Common.{◌≡◌, ℕ, zero, suc, ◌+◌, ◌<◌, ◌≤◌, List, [], ◌∷◌, length, Some, set, refl, sym, ap, ◌∙◌, subst, arith, inl, inr, ◌⊎◌, ⊎_elim}
use Rattle.std.specs.Prelude.{slice_get}
use Rattle.std.proofs.lemmas.List.{set_past}
use Rattle.std.proofs.lemmas.Bool.{cases_lt}
use Rattle.std.proofs.lemmas.Option.{slice_get_within, same_Some}
use Rattle.fir_base.proofs.Writes.{write_cases, write_same}
use Rattle.fir_meaning.specs.working.TermValues.{Holds}
use Rattle.fir_connect.specs.working.NetRoles.{NetRole as RoleMeant}
use Rattle.fir_net.specs.declared.node.Node.{Node}
use Rattle.fir_whens.specs.declared.net_role.NetRole.{NetRole}
use Rattle.fir_whens.specs.declared.net_role.NetRole.TheVariants as role
use Rattle.fir_whens.specs.working.StandingRoles.{RoleStands}
use Rattle.fir_flatten.specs.declared.offsets.Offsets.{Offsets}
use Rattle.fir_flatten.specs.working.MovedNets.{leaf_moved, role_moved}
use Rattle.fir_flatten.specs.working.PutModules.{given, given_from}

-- the one that was written, which is no source, or an old one
abbrev GivenOr : List NetRole → ℕ → NetRole → ℕ → NetRole → Type 0
GivenOr roles x r y z = ((x ≡ y) × (r ≡ z) × (r ≡ role.Source → ⊥)) ⊎ (slice_get roles y ≡ Some z)

set_cases : (roles : List NetRole) (x : ℕ) (r : NetRole) (y : ℕ) (z : NetRole) → (r ≡ role.Source → ⊥) → slice_get (set roles x r) y ≡ Some z → GivenOr roles x r y z
set_cases roles x r y z other h =
    ⊎_elim
    (λ (lt : x < length roles).
    ⊎_elim
    (λ (w : (y ≡ x) × (r ≡ z)). inl (sym w.0, w.1, other))
    (λ (w : (y ≡ x → ⊥) × (slice_get roles y ≡ Some z)). inr w.1)
    (write_cases roles x r y z lt h))
    (λ (le : length roles ≤ x). inr (ap (λ (rs : List NetRole). slice_get rs y) (sym (set_past roles x r le)) ∙ h))
    (cases_lt x (length roles))

given_cases : (roles : List NetRole) (x : ℕ) (r : NetRole) (y : ℕ) (z : NetRole) → slice_get (given roles x r) y ≡ Some z → GivenOr roles x r y z
given_cases roles x role.Source y z h = inr h
given_cases roles x (role.Driven b) y z h = set_cases roles x (role.Driven b) y z (λ e. cc) h
given_cases roles x (role.Computed b) y z h = set_cases roles x (role.Computed b) y z (λ e. cc) h
given_cases roles x (role.Register clock reset next) y z h = set_cases roles x (role.Register clock reset next) y z (λ e. cc) h
given_cases roles x (role.Reading r) y z h = set_cases roles x (role.Reading r) y z (λ e. cc) h
given_cases roles x (role.Pipe r clock under) y z h = set_cases roles x (role.Pipe r clock under) y z (λ e. cc) h

set_here : (roles : List NetRole) (x : ℕ) (r z : NetRole) → slice_get (set roles x r) x ≡ Some z → r ≡ z
set_here roles x r z h =
    ⊎_elim
    (λ (lt : x < length roles). same_Some r z (sym (write_same roles x r lt) ∙ h))
    (λ (le : length roles ≤ x).
    let there : slice_get roles x ≡ Some z = ap (λ (rs : List NetRole). slice_get rs x) (sym (set_past roles x r le)) ∙ h in
    let lt = slice_get_within roles x z there in
    absurd (omega arith))
    (cases_lt x (length roles))

given_here : (roles : List NetRole) (x : ℕ) (r z : NetRole) → (r ≡ role.Source → ⊥) → slice_get (given roles x r) x ≡ Some z → r ≡ z
given_here roles x role.Source z other h = absurd (other refl)
given_here roles x (role.Driven b) z other h = set_here roles x (role.Driven b) z h
given_here roles x (role.Computed b) z other h = set_here roles x (role.Computed b) z h
given_here roles x (role.Register clock reset next) z other h = set_here roles x (role.Register clock reset next) z h
given_here roles x (role.Reading r) z other h = set_here roles x (role.Reading r) z h
given_here roles x (role.Pipe r clock under) z other h = set_here roles x (role.Pipe r clock under) z h

-- the role of a leaf, by the nodes
module _ (holds : Holds) (net : List Node) (q : RoleMeant) (y : ℕ) where
  abbrev pub MayStand : List NetRole → Type 0
  MayStand roles = (r : NetRole) → slice_get roles y ≡ Some r → (r ≡ role.Source) ⊎ RoleStands holds net r q

  abbrev pub DoesStand : List NetRole → Type 0
  DoesStand roles = (r : NetRole) → slice_get roles y ≡ Some r → RoleStands holds net r q

  -- roles from the one of a number on, of which each that comes to the leaf is none or stands
  abbrev pub EachStands : Offsets → ℕ → List NetRole → Type 0
  EachStands at x rs =
      (i : ℕ) (r : NetRole) → slice_get rs i ≡ Some r → leaf_moved at (x + i) ≡ y
      → (role_moved at r ≡ role.Source) ⊎ RoleStands holds net (role_moved at r) q

  module _ (at : Offsets) where
    first_stands : (x : ℕ) (r : NetRole) (rs : List NetRole) → EachStands at x (r ∷ rs) → leaf_moved at x ≡ y
        → (role_moved at r ≡ role.Source) ⊎ RoleStands holds net (role_moved at r) q
    first_stands x r rs each e = each 0 r refl (subst (λ (z : ℕ). leaf_moved at z ≡ y) (omega arith) e)

    others_stand : (x : ℕ) (r : NetRole) (rs : List NetRole) → EachStands at x (r ∷ rs) → EachStands at (suc x) rs
    others_stand x r rs each i s h e = each (suc i) s h (subst (λ (z : ℕ). leaf_moved at z ≡ y) (omega arith) e)

    pub may_stand_on : (x : ℕ) (rs roles : List NetRole) → EachStands at x rs → MayStand roles → MayStand (given_from at x rs roles)
    may_stand_on x [] roles each h = h
    may_stand_on x (r ∷ rs) roles each h =
        may_stand_on (suc x) rs (given roles (leaf_moved at x) (role_moved at r)) (others_stand x r rs each)
        (λ z is.
        ⊎_elim
        (λ (w : (leaf_moved at x ≡ y) × (role_moved at r ≡ z) × (role_moved at r ≡ role.Source → ⊥)).
        subst (λ (s : NetRole). (s ≡ role.Source) ⊎ RoleStands holds net s q) w.1 (first_stands x r rs each w.0))
        (λ (old : slice_get roles y ≡ Some z). h z old)
        (given_cases roles (leaf_moved at x) (role_moved at r) y z is))

    pub does_stand_on : (x : ℕ) (rs roles : List NetRole) → EachStands at x rs → DoesStand roles → DoesStand (given_from at x rs roles)
    does_stand_on x [] roles each h = h
    does_stand_on x (r ∷ rs) roles each h =
        does_stand_on (suc x) rs (given roles (leaf_moved at x) (role_moved at r)) (others_stand x r rs each)
        (λ z is.
        ⊎_elim
        (λ (w : (leaf_moved at x ≡ y) × (role_moved at r ≡ z) × (role_moved at r ≡ role.Source → ⊥)).
        subst (λ (s : NetRole). RoleStands holds net s q) w.1
        (⊎_elim
        (λ (none : role_moved at r ≡ role.Source). absurd (w.2 none))
        (λ (stands : RoleStands holds net (role_moved at r) q). stands)
        (first_stands x r rs each w.0)))
        (λ (old : slice_get roles y ≡ Some z). h z old)
        (given_cases roles (leaf_moved at x) (role_moved at r) y z is))

    -- one of them comes to the leaf, and is no source
    pub one_stands : (x i : ℕ) (rs roles : List NetRole) (r : NetRole) → EachStands at x rs → slice_get rs i ≡ Some r → leaf_moved at (x + i) ≡ y
        → (role_moved at r ≡ role.Source → ⊥) → DoesStand (given_from at x rs roles)
    one_stands x i [] roles r each h e other = cc
    one_stands x zero (s ∷ rs) roles r each h e other =
        let same : s ≡ r = cc in
        let here : leaf_moved at x ≡ y = subst (λ (z : ℕ). leaf_moved at z ≡ y) (omega arith) e in
        let apart : role_moved at s ≡ role.Source → ⊥ = λ none. other (ap (role_moved at) (sym same) ∙ none) in
        let stands : RoleStands holds net (role_moved at s) q =
        ⊎_elim
        (λ (none : role_moved at s ≡ role.Source). absurd (apart none))
        (λ (stands : RoleStands holds net (role_moved at s) q). stands)
        (first_stands x s rs each here) in
        does_stand_on (suc x) rs (given roles (leaf_moved at x) (role_moved at s)) (others_stand x s rs each)
        (λ z is.
        subst (λ (t : NetRole). RoleStands holds net t q)
        (given_here roles (leaf_moved at x) (role_moved at s) z apart
        (subst (λ (j : ℕ). slice_get (given roles (leaf_moved at x) (role_moved at s)) j ≡ Some z) (sym here) is))
        stands)
    one_stands x (suc i) (s ∷ rs) roles r each h e other =
        one_stands (suc x) i rs (given roles (leaf_moved at x) (role_moved at s)) r (others_stand x s rs each) h
        (subst (λ (z : ℕ). leaf_moved at z ≡ y) (omega arith) e) other
