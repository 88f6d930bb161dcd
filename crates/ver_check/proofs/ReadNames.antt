-- What items without a fault read and drive, by what is declared before them, and so by all that is declared.
use Rattle.std.proofs.Common.{◌≡◌, ℕ, List, [], ◌∷◌, ◌++◌, Bool, true, false, if◌then◌else◌, refl, sym, ap, ◌∙◌, inl, inr, ◌⊎◌, subst, append_assoc, append-nil}
use Rattle.std.specs.Prelude.{Option, Some, None, drop, option_map}
use Rattle.std.specs.List.{AllByRecursion}
use Rattle.std.specs.Str.{bytes_eq}
use Rattle.std.proofs.lemmas.Option.{none-some}
use Rattle.fir_base.proofs.Each.{all_joined}
use Rattle.ver_ast.specs.declared.place.VPlace.{VPlace}
use Rattle.ver_ast.specs.declared.tree.Assign.{Assign}
use Rattle.ver_ast.specs.declared.tree.Edge.{Edge}
use Rattle.ver_ast.specs.declared.tree.Item.{Item}
use Rattle.ver_ast.specs.declared.tree.Item.TheVariants as item
use Rattle.ver_ast.specs.declared.tree.Resetting.{Resetting}
use Rattle.ver_ast.specs.declared.tree.Rhs.{Rhs}
use Rattle.ver_ast.specs.declared.tree.Rhs.TheVariants as rhs
use Rattle.ver_ast.specs.Atoms.{AtomTree, net, constant, bit_select, part_select, concat, repeat, AtomTrees, no_atoms, atom_before}
use Rattle.ver_ast.specs.AtomForms.{constant_number}
use Rattle.ver_ast.specs.Grammar.{atom_tokens, item_tokens}
use Rattle.ver_ast.specs.SoundSides.{signed_rule}
use Rattle.ver_ast.specs.Names.{atom_names, joined_names, rhs_names}
use Rattle.ver_places.specs.Places.{behind, place_at}
use Rattle.ver_check.specs.declared.kind.Kind.{Kind}
use Rattle.ver_check.specs.declared.kind.Kind.TheVariants as kind
use Rattle.ver_check.specs.Scopes.{Declaration, Scope, bits_of, declaration_of, found_by, kind_bits, kind_of, register_bits}
use Rattle.ver_check.specs.OperandFaults.{atom_bits, atom_faults, is_constant_fit, joined_faults, name_faults, own_faults, width_faults}
use Rattle.ver_check.specs.SideFaults.{first_needs, second_needs, side_faults, signed_faults, truth_faults}
use Rattle.ver_check.specs.ItemFaults.{Before, assign_faults_by, driven_faults, driver_of, item_faults, register_faults, reset_faults, resetting_faults_by, tested_faults}
use Rattle.ver_check.specs.TreeFaults.{behind_item, behind_items, items_faults}
use Rattle.ver_check.proofs.Faultless.{first_empty, second_empty}
use Rattle.ver_check.proofs.OwnFaults.{IsMet, named_bits, own_met, width_met}
use Rattle.ver_check.proofs.StepsBehind.{adds}

-- names of what has bits
abbrev pub HaveBits : Scope → List (List ℕ) → Type 0
HaveBits scope = AllByRecursion (λ n. (w : ℕ) × (bits_of kind_bits scope n ≡ Some w))

module _ (scope : Scope) where
  abbrev HasBits : List ℕ → Type 0
  HasBits n = (w : ℕ) × (bits_of kind_bits scope n ≡ Some w)

  mutual
    atom_reads : (needed : Option ℕ) (a : AtomTree) (ps : List VPlace) → atom_faults scope needed a ps ≡ [] → HaveBits scope (atom_names a)
    atom_reads needed (net n) ps e = (named_bits kind_bits (place_at 0 ps) n (kind_of scope n) (second_empty _ _ e), tt)
    atom_reads needed (constant width value) ps e = tt
    atom_reads needed (bit_select n i) ps e = (named_bits kind_bits (place_at 0 ps) n (kind_of scope n) (second_empty _ _ e), tt)
    atom_reads needed (part_select n hi lo) ps e = (named_bits kind_bits (place_at 0 ps) n (kind_of scope n) (second_empty _ _ e), tt)
    atom_reads needed (concat a more) ps e =
        all_joined HasBits (atom_names a) (joined_names more) (atom_reads None a (drop 1 ps) (second_empty _ _ (first_empty _ _ e)))
        (joined_reads more (behind (atom_tokens a) (drop 1 ps)) (second_empty _ _ e))
    atom_reads needed (repeat count a) ps e = atom_reads None a (drop 3 ps) (second_empty _ _ e)

    joined_reads : (more : AtomTrees) (ps : List VPlace) → joined_faults scope more ps ≡ [] → HaveBits scope (joined_names more)
    joined_reads no_atoms ps e = tt
    joined_reads (atom_before a more) ps e =
        all_joined HasBits (atom_names a) (joined_names more) (atom_reads None a ps (first_empty _ _ e)) (joined_reads more (behind (atom_tokens a) ps) (second_empty _ _ e))

  one : (a : AtomTree) → HaveBits scope (atom_names a) → HaveBits scope (atom_names a ++ [])
  one a h = all_joined HasBits (atom_names a) [] h tt

  two : (a b : AtomTree) → HaveBits scope (atom_names a) → HaveBits scope (atom_names b) → HaveBits scope (atom_names a ++ (atom_names b ++ []))
  two a b h k = all_joined HasBits (atom_names a) (atom_names b ++ []) h (one b k)

  signed_reads : (needed : Option ℕ) (a : AtomTree) (ps : List VPlace) → signed_faults scope needed a ps ≡ [] → HaveBits scope (atom_names a)
  signed_reads needed a ps e = atom_reads None a (drop 1 ps) (second_empty _ _ e)

  side_reads : (w : ℕ) (r : Rhs) (ps : List VPlace) → side_faults scope w r ps ≡ [] → HaveBits scope (rhs_names r)
  side_reads w (rhs.Atom a) ps e = one a (atom_reads _ a ps e)
  side_reads w (rhs.Unary op a) ps e = one a (atom_reads _ a ps e)
  side_reads w (rhs.Binary a op b) ps e = two a b (atom_reads _ a ps (first_empty _ _ e)) (atom_reads _ b _ (second_empty _ _ e))
  side_reads w (rhs.Signed a op b) ps e =
      let next = behind (atom_tokens a) (drop 1 ps) in
      two a b (signed_reads (first_needs (signed_rule op) w) a ps (first_empty _ _ e))
      (signed_reads (second_needs (signed_rule op) w (atom_bits scope a)) b next (second_empty _ _ e))
  side_reads w (rhs.SignedShift a b) ps e =
      let next = behind (atom_tokens a) (drop 1 ps) in
      two a b (signed_reads (Some w) a ps (first_empty _ (atom_faults scope None b next) e))
      (atom_reads None b next (second_empty (signed_faults scope (Some w) a ps) _ e))
  side_reads w (rhs.Conditional c a b) ps e =
      let front = first_empty _ _ e in
      all_joined HasBits (atom_names c) (atom_names a ++ (atom_names b ++ [])) (atom_reads _ c ps (first_empty _ _ front))
      (two a b (atom_reads _ a _ (second_empty _ _ front)) (atom_reads _ b _ (second_empty _ _ e)))
  side_reads w (rhs.Word m a) ps e = one a (atom_reads _ a _ (second_empty _ _ e))

-- what an assign drives, and that what it reads has bits; a clock output reads none
abbrev pub IsDrivable : Scope → List ℕ → Type 0
IsDrivable scope n = (w : ℕ) × ((kind_of scope n ≡ Some (kind.Wire w)) ⊎ (kind_of scope n ≡ Some (kind.Output w)))

abbrev pub IsKnown : Scope → Item → Type 0
IsKnown scope (item.Assign a) = (kind_of scope a.target ≡ Some kind.ClockOutput) ⊎ (IsDrivable scope a.target × HaveBits scope (rhs_names a.rhs))
IsKnown scope (item.Resetting b) = (bits_of kind_bits scope b.reset ≡ Some 1) × (bits_of register_bits scope b.target ≡ Some b.value.width)
IsKnown scope _ = Unit {0}

module _ (before : Before) where
  abbrev scope : Scope
  scope = before.scope

  pub reset_bits : (n : List ℕ) (p : VPlace) → reset_faults before n p ≡ [] → bits_of kind_bits scope n ≡ Some 1
  reset_bits n p e =
      let r = named_bits kind_bits p n (kind_of scope n) (first_empty _ (width_faults (Some 1) (bits_of kind_bits scope n) p) e) in
      let one : r.0 ≡ 1 =
      width_met (Some 1) r.0 p
      (subst (λ (o : Option ℕ). width_faults (Some 1) o p ≡ []) r.1 (second_empty (name_faults kind_bits p n (kind_of scope n)) _ e)) in
      r.1 ∙ ap (λ (x : ℕ). Some x) one

  pub register_known : (n : List ℕ) (p : VPlace) → register_faults before n p ≡ [] → (w : ℕ) × (bits_of register_bits scope n ≡ Some w)
  register_known n p e = named_bits register_bits p n (kind_of scope n) (first_empty _ (driven_faults p n (driver_of before.written n)) e)

  pub target_bits : (b : Resetting) (ps : List VPlace) → tested_faults before b ps ≡ [] → bits_of register_bits scope b.target ≡ Some b.value.width
  target_bits b ps e =
      let r = register_known b.target (place_at 3 ps) (second_empty _ _ (first_empty _ _ e)) in
      let needed = bits_of register_bits scope b.target in
      let fit = is_constant_fit b.value.width (constant_number b.value) in
      let own : own_faults needed (Some b.value.width) fit (place_at 4 ps) ≡ [] = second_empty _ _ e in
      let met = own_met needed (Some b.value.width) fit (place_at 4 ps) b.value.width refl own in
      let wide : b.value.width ≡ r.0 = subst (λ (o : Option ℕ). IsMet o b.value.width) r.1 met in
      r.1 ∙ ap (λ (x : ℕ). Some x) (sym wide)

  tested_known : (b : Resetting) (ps : List VPlace) → tested_faults before b ps ≡ [] → IsKnown scope (item.Resetting b)
  tested_known b ps e = (reset_bits b.reset (place_at 0 ps) (first_empty _ _ (first_empty _ _ (first_empty _ _ e))), target_bits b ps e)

  resetting_known : (o : Option Edge) (b : Resetting) (ps : List VPlace) → resetting_faults_by before o b ps ≡ [] → IsKnown scope (item.Resetting b)
  resetting_known None b ps e = tested_known b (drop 2 ps) e
  resetting_known (Some x) b ps e = tested_known b (drop 5 ps) (second_empty _ _ (first_empty _ _ (first_empty _ _ e)))

  assign_by_kind : (a : Assign) (ps : List VPlace) (n : List ℕ) (k : Kind) (q : VPlace) → kind_of scope a.target ≡ Some k
      → assign_faults_by before (Some (record { name = n; kind = k; place = q })) a ps ≡ [] → IsKnown scope (item.Assign a)
  assign_by_kind a ps n kind.ClockInput q is e = absurd (cc)
  assign_by_kind a ps n kind.ClockOutput q is e = inl is
  assign_by_kind a ps n (kind.Input w) q is e = absurd (let twice = second_empty (truth_faults w a.rhs (place_at 1 ps)) _ e in cc)
  assign_by_kind a ps n (kind.Output w) q is e = inr ((w, inr is), side_reads scope w a.rhs (drop 2 ps) (second_empty _ _ e))
  assign_by_kind a ps n (kind.Wire w) q is e = inr ((w, inl is), side_reads scope w a.rhs (drop 2 ps) (second_empty _ _ e))
  assign_by_kind a ps n (kind.Register w) q is e = absurd (cc)
  assign_by_kind a ps n (kind.Array w) q is e = absurd (cc)

  assign_known : (a : Assign) (ps : List VPlace) (o : Option Declaration) → declaration_of scope a.target ≡ o → assign_faults_by before o a ps ≡ []
      → IsKnown scope (item.Assign a)
  assign_known a ps None is e = absurd (cc)
  assign_known a ps (Some d) is e = assign_by_kind a ps d.name d.kind d.place (ap (option_map (λ (x : Declaration). x.kind)) is) e

  item_known : (i : Item) (ps : List VPlace) → item_faults before i ps ≡ [] → IsKnown scope i
  item_known (item.Assign a) ps e = assign_known a ps (declaration_of scope a.target) refl e
  item_known (item.Resetting b) ps e = resetting_known b.edge b ps e
  item_known _ ps e = tt

-- what is declared stays so
module _ (scope more : Scope) where
  kept_kind : (n : List ℕ) (k : Kind) → kind_of scope n ≡ Some k → kind_of (scope ++ more) n ≡ Some k
  kept_kind n k e = by scope e
    where
      by : (ds : Scope) → kind_of ds n ≡ Some k → kind_of (ds ++ more) n ≡ Some k
      by [] h = absurd (none-some k h)
      by (d ∷ ds) h = at (bytes_eq n d.name) h (by ds)
        where
          at : (b : Bool) → option_map (λ (x : Declaration). x.kind) (if b then Some d else declaration_of ds n) ≡ Some k
              → (kind_of ds n ≡ Some k → kind_of (ds ++ more) n ≡ Some k)
              → option_map (λ (x : Declaration). x.kind) (if b then Some d else declaration_of (ds ++ more) n) ≡ Some k
          at true h rest = h
          at false h rest = rest h

  kept_bits : (bits : Kind → Option ℕ) (n : List ℕ) (w : ℕ) → bits_of bits scope n ≡ Some w → bits_of bits (scope ++ more) n ≡ Some w
  kept_bits bits n w e = by (kind_of scope n) refl e
    where
      by : (o : Option Kind) → kind_of scope n ≡ o → found_by bits o ≡ Some w → bits_of bits (scope ++ more) n ≡ Some w
      by None is h = absurd (none-some w h)
      by (Some k) is h = ap (found_by bits) (kept_kind n k is) ∙ h

  kept_reads : (ns : List (List ℕ)) → HaveBits scope ns → HaveBits (scope ++ more) ns
  kept_reads [] h = tt
  kept_reads (n ∷ ns) h = ((h.0.0, kept_bits kind_bits n h.0.0 h.0.1), kept_reads ns h.1)

  kept_item : (i : Item) → IsKnown scope i → IsKnown (scope ++ more) i
  kept_item (item.Assign a) (inl e) = inl (kept_kind a.target kind.ClockOutput e)
  kept_item (item.Assign a) (inr (((w, inl e), h))) = inr ((w, inl (kept_kind a.target (kind.Wire w) e)), kept_reads (rhs_names a.rhs) h)
  kept_item (item.Assign a) (inr (((w, inr e), h))) = inr ((w, inr (kept_kind a.target (kind.Output w) e)), kept_reads (rhs_names a.rhs) h)
  kept_item (item.Resetting b) h = (kept_bits kind_bits b.reset 1 h.0, kept_bits register_bits b.target b.value.width h.1)
  kept_item (item.Wire n) h = tt
  kept_item (item.Reg n) h = tt
  kept_item (item.Array a) h = tt
  kept_item (item.Always b) h = tt
  kept_item (item.Writing b) h = tt

-- items declare more behind what stands before them
declared_more : (before : Before) (items : List Item) (ps : List VPlace) → (more : Scope) × ((behind_items before items ps).scope ≡ before.scope ++ more)
declared_more before [] ps = ([], sym (append-nil before.scope))
declared_more before (i ∷ rest) ps =
    let own = adds before i ps in
    let r = declared_more (behind_item before i ps) rest (behind (item_tokens i) ps) in
    (own.declarations ++ r.0, r.1 ∙ ap (λ (ds : Scope). ds ++ r.0) own.scope_more ∙ append_assoc before.scope own.declarations r.0)

pub items_known : (before : Before) (items : List Item) (ps : List VPlace) → items_faults before items ps ≡ []
    → AllByRecursion (IsKnown (behind_items before items ps).scope) items
items_known before [] ps e = tt
items_known before (i ∷ rest) ps e =
    let more = declared_more before (i ∷ rest) ps in (
      subst (λ (ds : Scope). IsKnown ds i) (sym more.1) (kept_item before.scope more.0 i (item_known before i ps (first_empty _ _ e))),
      items_known (behind_item before i ps) rest (behind (item_tokens i) ps) (second_empty (item_faults before i ps) _ e),
    )
