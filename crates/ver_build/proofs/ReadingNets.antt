-- The nets of what a leaf reads of an array, from where it is held: none where it has no bits, and else one of its own with that name, and those before it.
use Rattle.std.proofs.Common.{◌≡◌, ℕ, ◌≤◌, List, [], ◌∷◌, ◌++◌, map, length, Bool, true, false, nat_eq, if◌then◌else◌, refl, sym, ap, ◌∙◌, inl, inr, ◌⊎◌, ⊎_elim, arith, Option, Some, None, unwrap_or}
use Rattle.std.specs.Prelude.{MatchBool, slice_get}
use Rattle.std.proofs.lemmas.Bool.{eqb-true, eqb-false}
use Rattle.fir_net.specs.declared.array.ArrayRead.{ArrayRead}
use Rattle.fir_base.specs.Lists.{In}
use Rattle.fir_net.specs.declared.leaf.Leaf.{Leaf}
use Rattle.fir_net.specs.declared.leaf.Role.{Role}
use Rattle.fir_net.specs.declared.leaf.Role.TheVariants as role
use Rattle.fir_net.specs.declared.reads.Read.TheVariants as read
use Rattle.fir_net.specs.declared.net.FlatNet.{FlatNet}
use Rattle.fir_net.specs.working.Arrays.{words_of}
use Rattle.fir_net_names.specs.declared.name_table.NameTable.{NameTable}
use Rattle.fir_net_names.specs.working.LeafNamed.{name_at}
use Rattle.ver_build.specs.declared.held.Held.{Held}
use Rattle.ver_build.specs.declared.places.NodePlace.{NodePlace}
use Rattle.ver_build.specs.declared.places.Places.{Places}
use Rattle.ver_build.specs.declared.right_sides.Inner.{Inner}
use Rattle.ver_build.specs.working.ArrayTexts.{always_within, direct_inners, guarded_inners, reading_count, reading_inners}
use Rattle.ver_build.specs.working.Built.{array_inners, leaf_inners, read_inners, role_inners}
use Rattle.ver_build.specs.working.Held.{own_held, whole_net}
use Rattle.ver_build.specs.working.Places.{AreReadingsHeld, IsReadingPlace, held_of, node_at, read_width, source_name}
use Rattle.ver_ast.specs.declared.tree.Rhs.{Rhs}
use Rattle.ver_build.proofs.LeafKinds.{is_reading}
use Rattle.ver_build.proofs.Nets.{inner_name}

-- what has no bits
pub record IsNothingRead (signed : Bool) (width : ℕ) (at : NodePlace) : Type 0 where
  pub none : width ≡ 0
  pub held : at.held ≡ own_held signed 0 None
  pub helpers : at.helpers ≡ []

-- what has a net of its own, of that name
pub record IsReadNetted (net : FlatNet) (signed : Bool) (width : ℕ) (r : ArrayRead) (at : NodePlace) : Type 0 where
  pub name : List ℕ
  pub some : 1 ≤ width
  pub held : at.held ≡ whole_net name signed width
  pub helpers : length at.helpers ≡ reading_count (read_width net r.address) (words_of net.arrays r.array)

no_helpers : {A : Type 0} → (xs : List A) → length xs ≡ 0 → xs ≡ []
no_helpers [] e = refl
no_helpers (x ∷ xs) e = absurd (omega arith)

view_by : (net : FlatNet) (signed : Bool) (width : ℕ) (r : ArrayRead) (at : NodePlace) (b : Bool) → nat_eq width 0 ≡ b
    → MatchBool b (at.held ≡ own_held signed width None) ((name : List ℕ) × (at.held ≡ whole_net name signed width))
    → length at.helpers ≡ (if b then 0 else reading_count (read_width net r.address) (words_of net.arrays r.array))
    → IsNothingRead signed width at ⊎ IsReadNetted net signed width r at
view_by net signed width r at true e own count =
    let none : width ≡ 0 = eqb-true _ _ e in
    inl (record { none = none; held = own ∙ ap (λ (w : ℕ). own_held signed w None) none; helpers = no_helpers at.helpers count })
view_by net signed width r at false e own count =
    let some : width ≡ 0 → ⊥ = eqb-false _ _ e in
    inr (record { name = own.0; some = omega arith; held = own.1; helpers = count })

pub reading_view : (net : FlatNet) (signed : Bool) (width : ℕ) (r : ArrayRead) (at : NodePlace) → IsReadingPlace net signed width r at
    → IsNothingRead signed width at ⊎ IsReadNetted net signed width r at
reading_view net signed width r at is = view_by net signed width r at (nat_eq width 0) refl is.held is.helpers

-- the names of the nets
direct_named : (array : List ℕ) (u w : ℕ) (a e : Held) (helpers : List (List ℕ)) (name : List ℕ) → length helpers ≡ 1
    → map inner_name (direct_inners array u w a e helpers name) ≡ helpers ++ name ∷ []
direct_named array u w a e [] name long = absurd (omega arith)
direct_named array u w a e (x ∷ []) name long = refl
direct_named array u w a e (x ∷ y ∷ more) name long = absurd (omega arith)

guarded_named : (array : List ℕ) (words u w : ℕ) (a e : Held) (helpers : List (List ℕ)) (name : List ℕ) → length helpers ≡ 4
    → map inner_name (guarded_inners array words u w a e helpers name) ≡ helpers ++ name ∷ []
guarded_named array words u w a e [] name long = absurd (omega arith)
guarded_named array words u w a e (x ∷ []) name long = absurd (omega arith)
guarded_named array words u w a e (x ∷ y ∷ []) name long = absurd (omega arith)
guarded_named array words u w a e (x ∷ y ∷ z ∷ []) name long = absurd (omega arith)
guarded_named array words u w a e (x ∷ y ∷ z ∷ v ∷ []) name long = refl
guarded_named array words u w a e (x ∷ y ∷ z ∷ v ∷ q ∷ more) name long = absurd (omega arith)

pub reading_named : (array : List ℕ) (words u w : ℕ) (a e : Held) (helpers : List (List ℕ)) (name : List ℕ) → length helpers ≡ reading_count w words
    → map inner_name (reading_inners array words u w a e helpers name) ≡ helpers ++ name ∷ []
reading_named array words u w a e helpers name long = by (always_within w words) refl long
  where
    by : (b : Bool) → always_within w words ≡ b → length helpers ≡ (if b then 1 else 4)
        → map inner_name (if b then direct_inners array u w a e helpers name else guarded_inners array words u w a e helpers name) ≡ helpers ++ name ∷ []
    by true s count = direct_named array u w a e helpers name count
    by false s count = guarded_named array words u w a e helpers name count

module _ (net : FlatNet) (t : NameTable) (p : Places) (signed : Bool) (width : ℕ) (r : ArrayRead) (at : NodePlace) where
  pub nothing_inners : IsNothingRead signed width at → array_inners net t p width r at.helpers at.held.source ≡ []
  nothing_inners is = ap (λ (h : Held). array_inners net t p width r at.helpers h.source) is.held

  pub read_inners_are : (is : IsReadNetted net signed width r at)
      → array_inners net t p width r at.helpers at.held.source
      ≡ reading_inners (unwrap_or (name_at t.arrays r.array) []) (words_of net.arrays r.array) width (read_width net r.address) (held_of p r.address)
      (held_of p r.enable) at.helpers is.name
  read_inners_are is = ap (λ (h : Held). array_inners net t p width r at.helpers h.source) is.held

  pub array_inners_named : IsReadingPlace net signed width r at
      → map inner_name (array_inners net t p width r at.helpers at.held.source) ≡ at.helpers ++ source_name at.held.source
  array_inners_named is =
      ⊎_elim
      (λ (n : IsNothingRead signed width at).
      ap (map inner_name) (nothing_inners n)
      ∙ sym (ap (λ (xs : List (List ℕ)). xs ++ source_name at.held.source) n.helpers ∙ ap (λ (h : Held). source_name h.source) n.held))
      (λ (h : IsReadNetted net signed width r at).
      ap (map inner_name) (read_inners_are h)
      ∙ reading_named (unwrap_or (name_at t.arrays r.array) []) (words_of net.arrays r.array) width (read_width net r.address) (held_of p r.address)
      (held_of p r.enable) at.helpers h.name h.helpers
      ∙ sym (ap (λ (x : Held). at.helpers ++ source_name x.source) h.held))
      (reading_view net signed width r at is)

-- the nets of what is read with a net of its own, which is the last of them
abbrev pub netted_reading : FlatNet → NameTable → Places → ℕ → ArrayRead → List (List ℕ) → List ℕ → List Inner
netted_reading net t p width r helpers name =
    reading_inners (unwrap_or (name_at t.arrays r.array) []) (words_of net.arrays r.array) width (read_width net r.address) (held_of p r.address)
    (held_of p r.enable) helpers name

pub reading_own : (array : List ℕ) (words u w : ℕ) (a e : Held) (helpers : List (List ℕ)) (name : List ℕ)
    → (x : Rhs) × In (reading_inners array words u w a e helpers name) (record { name = name; width = u; rhs = x })
reading_own array words u w a e helpers name = by (always_within w words)
  where
    by : (b : Bool) → (x : Rhs) × In (if b then direct_inners array u w a e helpers name else guarded_inners array words u w a e helpers name) (record { name = name; width = u; rhs = x })
    by true = (_, inr (inl refl))
    by false = (_, inr (inr (inr (inr (inl refl)))))

-- a leaf that reads an array by nets
pub record IsRead (net : FlatNet) (p : Places) (k : ℕ) : Type 0 where
  pub leaf : Leaf
  pub at : slice_get net.leaves k ≡ Some leaf
  pub read : ArrayRead
  pub reads : leaf.role ≡ role.Reading read
  pub netted : IsReadNetted net leaf.signed leaf.width read (node_at p.readings k)

module _ (net : FlatNet) (t : NameTable) (p : Places) where
  abbrev pub own_reading : (k : ℕ) → IsRead net p k → List Inner
  own_reading k h = netted_reading net t p h.leaf.width h.read (node_at p.readings k).helpers h.netted.name

  role_is : (k : ℕ) (l : Leaf) (d : Role) → slice_get net.leaves k ≡ Some l → l.role ≡ d
      → read_inners net t p (read.Leaf k) ≡ role_inners net t p l.width d (node_at p.readings k)
  role_is k l d at same =
      ap (λ (o : Option Leaf). leaf_inners net t p o (node_at p.readings k)) at
      ∙ ap (λ (r : Role). role_inners net t p l.width r (node_at p.readings k)) same

  pub reading_is : (k : ℕ) (h : IsRead net p k) → read_inners net t p (read.Leaf k) ≡ own_reading k h
  reading_is k h =
      role_is k h.leaf (role.Reading h.read) h.at h.reads
      ∙ read_inners_are net t p h.leaf.signed h.leaf.width h.read (node_at p.readings k) h.netted

  none_read : (k : ℕ) (l : Leaf) (d : Role) → slice_get net.leaves k ≡ Some l → l.role ≡ d → is_reading d ≡ false → read_inners net t p (read.Leaf k) ≡ []
  none_read k l (role.Reading r) at same other = absurd (cc)
  none_read k l role.Input at same other = role_is k l role.Input at same
  none_read k l role.Clock at same other = role_is k l role.Clock at same
  none_read k l (role.Output r) at same other = role_is k l (role.Output r) at same
  none_read k l (role.Wire r) at same other = role_is k l (role.Wire r) at same
  none_read k l (role.Register r) at same other = role_is k l (role.Register r) at same
  none_read k l (role.Pipe q) at same other = role_is k l (role.Pipe q) at same
  none_read k l (role.ClockOutput c) at same other = role_is k l (role.ClockOutput c) at same
  none_read k l (role.ClockWire c) at same other = role_is k l (role.ClockWire c) at same

  -- a leaf that reads no array has none
  pub other_read : (k : ℕ) (l : Leaf) → slice_get net.leaves k ≡ Some l → is_reading l.role ≡ false → read_inners net t p (read.Leaf k) ≡ []
  other_read k l at other = none_read k l l.role at refl other

  pub nothing_read : (k : ℕ) (l : Leaf) (r : ArrayRead) → slice_get net.leaves k ≡ Some l → l.role ≡ role.Reading r
      → IsNothingRead l.signed l.width (node_at p.readings k) → read_inners net t p (read.Leaf k) ≡ []
  nothing_read k l r at same none =
      role_is k l (role.Reading r) at same ∙ nothing_inners net t p l.signed l.width r (node_at p.readings k) none

  module _ (held : AreReadingsHeld net p.readings) where
    role_view : (k : ℕ) (l : Leaf) (d : Role) → slice_get net.leaves k ≡ Some l → l.role ≡ d → (read_inners net t p (read.Leaf k) ≡ []) ⊎ IsRead net p k
    role_view k l (role.Reading r) at same =
        ⊎_elim
        (λ (n : IsNothingRead l.signed l.width (node_at p.readings k)). inl (nothing_read k l r at same n))
        (λ (h : IsReadNetted net l.signed l.width r (node_at p.readings k)). inr (record { leaf = l; at = at; read = r; reads = same; netted = h }))
        (reading_view net l.signed l.width r (node_at p.readings k) (held.each k l r at same))
    role_view k l role.Input at same = inl (role_is k l role.Input at same)
    role_view k l role.Clock at same = inl (role_is k l role.Clock at same)
    role_view k l (role.Output r) at same = inl (role_is k l (role.Output r) at same)
    role_view k l (role.Wire r) at same = inl (role_is k l (role.Wire r) at same)
    role_view k l (role.Register r) at same = inl (role_is k l (role.Register r) at same)
    role_view k l (role.Pipe q) at same = inl (role_is k l (role.Pipe q) at same)
    role_view k l (role.ClockOutput c) at same = inl (role_is k l (role.ClockOutput c) at same)
    role_view k l (role.ClockWire c) at same = inl (role_is k l (role.ClockWire c) at same)

    -- each leaf reads an array by nets, or has none
    pub leaf_view : (k : ℕ) → (read_inners net t p (read.Leaf k) ≡ []) ⊎ IsRead net p k
    leaf_view k = by (slice_get net.leaves k) refl
      where
        by : (o : Option Leaf) → slice_get net.leaves k ≡ o → (read_inners net t p (read.Leaf k) ≡ []) ⊎ IsRead net p k
        by None e = inl (ap (λ (o : Option Leaf). leaf_inners net t p o (node_at p.readings k)) e)
        by (Some l) e = role_view k l l.role e refl
