-- Where the inits of registers are constants, they are so among what is kept.
use Rattle.std.proofs.Common.{◌≡◌, ℕ, ◌∷◌, Some, None, true, refl, ap, sym, ◌∙◌, subst, inl, inr, option_map}
use Rattle.std.specs.Prelude.{slice_get, Option}
use Rattle.fir_base.specs.Lists.{In}
use Rattle.fir_base.proofs.Members.{in_left}
use Rattle.fir_net.specs.declared.leaf.Leaf.{Leaf}
use Rattle.fir_net.specs.declared.leaf.Register.{Register}
use Rattle.fir_net.specs.declared.leaf.Reset.{Reset}
use Rattle.fir_net.specs.declared.leaf.ResetKind.TheVariants.{Asynchronous}
use Rattle.fir_net.specs.declared.leaf.Role.{Role}
use Rattle.fir_net.specs.declared.leaf.Role.TheVariants as role
use Rattle.fir_net.specs.declared.net.FlatNet.{FlatNet}
use Rattle.fir_net.specs.declared.reads.Read.{Read}
use Rattle.fir_net.specs.declared.reads.Read.TheVariants as read
use Rattle.fir_net.specs.working.Dependence.{Reads}
use Rattle.fir_net.specs.working.IsWritable.{HasConstantInits, IsConstant, Reaches, is_input_or_state, itself, through}
use Rattle.fir_drop_dead.specs.working.IsLive.{optional_read, whole_reset_reads, whole_role_reads}
use Rattle.fir_drop_dead.specs.working.Marks.{Marked, has}
use Rattle.fir_drop_dead.specs.working.Moved.{kept_net, moved_leaf, moved_read, moved_register, moved_reset, moved_role}
use Rattle.fir_drop_dead.specs.working.Needed.{AreMarked, AreNeeded}
use Rattle.fir_drop_dead.specs.working.Numbers.{place}
use Rattle.fir_drop_dead.proofs.KeptDependence.{reads_old}
use Rattle.fir_drop_dead.proofs.KeptItems.{place_once}
use Rattle.fir_drop_dead.proofs.KeptLeaves.{leaf_reads_kept, moved_from}

module _ (m : Marked) where
  same_show : (r : Role) → is_input_or_state (moved_role m r) ≡ is_input_or_state r
  same_show role.Input = refl
  same_show role.Clock = refl
  same_show (role.Output r) = refl
  same_show (role.Wire r) = refl
  same_show (role.Register r) = refl
  same_show (role.Reading r) = refl
  same_show (role.Pipe p) = refl
  same_show (role.ClockOutput c) = refl
  same_show (role.ClockWire c) = refl

  register_from : (r : Role) (s : Register) → moved_role m r ≡ role.Register s → (t : Register) × (r ≡ role.Register t) × (moved_register m t ≡ s)
  register_from role.Input s e = cc
  register_from role.Clock s e = cc
  register_from (role.Output r) s e = cc
  register_from (role.Wire r) s e = cc
  register_from (role.Register r) s e = (r, refl, cc)
  register_from (role.Reading r) s e = cc
  register_from (role.Pipe p) s e = cc
  register_from (role.ClockOutput c) s e = cc
  register_from (role.ClockWire c) s e = cc

  reset_from : (o : Option Reset) (s : Reset) → option_map (moved_reset m) o ≡ Some s → (t : Reset) × (o ≡ Some t) × (moved_reset m t ≡ s)
  reset_from None s e = cc
  reset_from (Some t) s e = (t, refl, cc)

  -- a leaf under its new number is a leaf
  leaf_from : (r : Read) (j : ℕ) → moved_read m r ≡ read.Leaf j → (k : ℕ) × (r ≡ read.Leaf k) × (place m.leaves k ≡ j)
  leaf_from (read.Leaf k) j e = (k, refl, cc)
  leaf_from (read.Node k) j e = cc

  one_leaf : (i j k : ℕ) → has m (read.Leaf i) ≡ true → has m (read.Leaf j) ≡ true → place m.leaves i ≡ k → place m.leaves j ≡ k → i ≡ j
  one_leaf i j k h g e f = place_once m.leaves i j h g (e ∙ sym f)

  init_among : (r : Register) (s : Reset) → r.reset ≡ Some s → In (whole_role_reads (role.Register r)) s.init
  init_among r s e =
      in_left (read.Leaf r.clock ∷ whole_reset_reads r.reset) (optional_read r.next) s.init
      (inr (subst (λ (o : Option Reset). In (whole_reset_reads o) s.init) (sym e) (inr (inl refl))))

  marked_leaf : (r : Read) (k : ℕ) → has m r ≡ true → r ≡ read.Leaf k → has m (read.Leaf k) ≡ true
  marked_leaf r k h e = ap (has m) (sym e) ∙ h

  role_init : (r : Role) (t : Register) (s : Reset) → r ≡ role.Register t → t.reset ≡ Some s → AreMarked m (whole_role_reads r) → has m s.init ≡ true
  role_init r t s e f are = are s.init (subst (λ (o : Role). In (whole_role_reads o) s.init) (sym e) (init_among t s f))

module _ (net : FlatNet) (m : Marked) (are : AreNeeded net m) where
  abbrev other : FlatNet
  other = kept_net m net

  record Reached (v w : Read) : Type 0 where
    read : Read
    marked : has m read ≡ true
    is : moved_read m read ≡ w
    reaches : Reaches net v read

  -- what is reached there was reached here
  reached : (x y : Read) → Reaches other x y → (v : Read) → moved_read m v ≡ x → has m v ≡ true → Reached v y
  reached x y (itself z) v e h = record { read = v; marked = h; is = e; reaches = itself v }
  reached x y (through a b z hangs rest) v e h =
      let one = reads_old net m are v b h (subst (λ (u : Read). Reads other u b) (sym e) hangs) in
      let all = reached b z rest one.read one.is one.marked in
      record { read = all.read; marked = all.marked; is = all.is; reaches = through v one.read all.read one.hangs all.reaches }

  at_leaf : (v w : Read) (j k : ℕ) → Reaches net v w → w ≡ read.Leaf j → j ≡ k → Reaches net v (read.Leaf k)
  at_leaf v w j k reaches e f = subst (Reaches net v) (e ∙ ap read.Leaf f) reaches

  pub inits_kept : HasConstantInits net → HasConstantInits other
  inits_kept constant = record { each = each }
    where
      each : (j : ℕ) (x : Leaf) (own : Register) (reset : Reset) → slice_get other.leaves j ≡ Some x → x.role ≡ role.Register own → own.reset ≡ Some reset
          → reset.kind ≡ Asynchronous → IsConstant other reset.init
      each j x own reset at is has_reset kind =
          let r = moved_from (moved_leaf m) m.leaves net.leaves j x at in
          let l = r.item in
          let t = register_from m l.role own (ap (λ (y : Leaf). y.role) r.is ∙ is) in
          let s = reset_from m t.0.reset reset (ap (λ (o : Register). o.reset) t.2 ∙ has_reset) in
          let old = constant.each r.from.old l t.0 s.0 r.from.at t.1 s.1 (ap (λ (o : Reset). o.kind) s.2 ∙ kind) in
          let marked : has m s.0.init ≡ true =
          role_init m l.role t.0 s.0 t.1 s.1 (leaf_reads_kept net m are r.from.old l r.from.at r.from.marked) in
          record {
            none = λ k y reach there.
                let f = reached reset.init (read.Leaf k) reach s.0.init (ap (λ (o : Reset). o.init) s.2) marked in
                let g = leaf_from m f.read k f.is in
                let p = moved_from (moved_leaf m) m.leaves net.leaves k y there in
                let here : g.0 ≡ p.from.old =
                one_leaf m g.0 p.from.old k (marked_leaf m f.read g.0 f.marked g.1) p.from.marked g.2 p.from.place in
                let reach_old = at_leaf s.0.init f.read g.0 p.from.old f.reaches g.1 here in
                let none = old.none p.from.old p.item reach_old p.from.at in
                ap (λ (z : Leaf). is_input_or_state z.role) (sym p.is) ∙ same_show m p.item.role ∙ none;
          }
