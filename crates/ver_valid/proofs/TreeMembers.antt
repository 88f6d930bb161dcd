-- Where the parts of a tree's lists stand among its ports and items.
use Rattle.std.proofs.Common.{◌≡◌, ℕ, List, [], ◌∷◌, Bool, true, false, if◌then◌else◌, refl, sym, ap, ◌∙◌, inl, inr, subst}
use Rattle.fir_base.specs.Lists.{In}
use Rattle.fir_base.specs.Words.{is_among}
use Rattle.fir_base.specs.declared.direction.Direction.{Direction}
use Rattle.fir_base.specs.declared.direction.Direction.TheVariants.{Input, Output}
use Rattle.fir_base.proofs.Members.{in_flat_map, in_flat_map_from}
use Rattle.ver_ast.specs.declared.tree.Verilog.{Verilog}
use Rattle.ver_ast.specs.declared.tree.Port.{Port}
use Rattle.ver_ast.specs.declared.tree.Net.{Net}
use Rattle.ver_ast.specs.declared.tree.Assign.{Assign}
use Rattle.ver_ast.specs.declared.tree.Item.{Item}
use Rattle.ver_ast.specs.declared.tree.Item.TheVariants as item
use Rattle.ver_ast.specs.Nets.{SizedNet, output_net, output_clock, wire_net, item_assign, item_clock_assign, wires, output_nets, output_clocks, assigns, clock_assigns}
use Rattle.ver_valid.specs.working.Walks.{item_target, assigned_names}

chosen_assign : (b : Bool) (a c : Assign) → In (if b then [] else (a ∷ [])) c → (a ≡ c) × (b ≡ false)
chosen_assign true a c m = absurd m
chosen_assign false a c (inl e) = (e, refl)
chosen_assign false a c (inr m) = absurd m

chosen_clock : (b : Bool) (a c : Assign) → In (if b then (a ∷ []) else []) c → (a ≡ c) × (b ≡ true)
chosen_clock false a c m = absurd m
chosen_clock true a c (inl e) = (e, refl)
chosen_clock true a c (inr m) = absurd m

module _ (outs : List (List ℕ)) where
  assign_of : (i : Item) (a : Assign) → In (item_assign outs i) a → (i ≡ item.Assign a) × (is_among outs a.target ≡ false)
  assign_of (item.Assign c) a m =
      let r = chosen_assign (is_among outs c.target) c a m in
      (ap (λ (x : Assign). item.Assign x) r.0, ap (λ (x : Assign). is_among outs x.target) (sym r.0) ∙ r.1)
  assign_of _ a m = absurd m

  clock_assign_of : (i : Item) (a : Assign) → In (item_clock_assign outs i) a → (i ≡ item.Assign a) × (is_among outs a.target ≡ true)
  clock_assign_of (item.Assign c) a m =
      let r = chosen_clock (is_among outs c.target) c a m in
      (ap (λ (x : Assign). item.Assign x) r.0, ap (λ (x : Assign). is_among outs x.target) (sym r.0) ∙ r.1)
  clock_assign_of _ a m = absurd m

target_of : (i : Item) (n : List ℕ) → In (item_target i) n → (a : Assign) × (i ≡ item.Assign a) × (a.target ≡ n)
target_of (item.Assign a) n (inl e) = (a, refl, e)
target_of (item.Assign a) n (inr m) = absurd m
target_of _ n m = absurd m

module _ (v : Verilog) where
  pub assign_at : (a : Assign) → In (assigns v) a → In v.items (item.Assign a) × (is_among (output_clocks v) a.target ≡ false)
  assign_at a m =
      let r = in_flat_map_from (item_assign (output_clocks v)) v.items a m in
      let s = assign_of (output_clocks v) r.0 a r.2 in
      (subst (In v.items) s.0 r.1, s.1)

  pub clock_assign_at : (a : Assign) → In (clock_assigns v) a → In v.items (item.Assign a) × (is_among (output_clocks v) a.target ≡ true)
  clock_assign_at a m =
      let r = in_flat_map_from (item_clock_assign (output_clocks v)) v.items a m in
      let s = clock_assign_of (output_clocks v) r.0 a r.2 in
      (subst (In v.items) s.0 r.1, s.1)

  pub in_assigns : (a : Assign) → In v.items (item.Assign a) → is_among (output_clocks v) a.target ≡ false → In (assigns v) a
  in_assigns a m e =
      in_flat_map (item_assign (output_clocks v)) v.items (item.Assign a) a m
      (subst (λ (b : Bool). In (if b then [] else (a ∷ [])) a) (sym e) (inl refl))

  pub in_clock_assigns : (a : Assign) → In v.items (item.Assign a) → is_among (output_clocks v) a.target ≡ true → In (clock_assigns v) a
  in_clock_assigns a m e =
      in_flat_map (item_clock_assign (output_clocks v)) v.items (item.Assign a) a m
      (subst (λ (b : Bool). In (if b then (a ∷ []) else []) a) (sym e) (inl refl))

  pub assigned_at : (n : List ℕ) → In (assigned_names v) n → (a : Assign) × In v.items (item.Assign a) × (a.target ≡ n)
  assigned_at n m =
      let r = in_flat_map_from item_target v.items n m in
      let s = target_of r.0 n r.2 in
      (s.0, subst (In v.items) s.1 r.1, s.2)

  pub target_in : (a : Assign) → In v.items (item.Assign a) → In (assigned_names v) a.target
  target_in a m = in_flat_map item_target v.items (item.Assign a) a.target m (inl refl)

wire_of : (i : Item) (s : SizedNet) → In (wire_net i) s → (n : Net) × (i ≡ item.Wire n) × (n.name ≡ s.0)
wire_of (item.Wire n) s (inl e) = (n, refl, ap (λ (x : SizedNet). x.0) e)
wire_of (item.Wire n) s (inr m) = absurd m
wire_of _ s m = absurd m

one_net : (b : Bool) (n : List ℕ) (w : ℕ) (s : SizedNet) → In (if b then [] else ((n, w) ∷ [])) s → n ≡ s.0
one_net true n w s m = absurd m
one_net false n w s (inl e) = ap (λ (x : SizedNet). x.0) e
one_net false n w s (inr m) = absurd m

one_clock : (b : Bool) (n m : List ℕ) → In (if b then n ∷ [] else []) m → n ≡ m
one_clock true n m (inl e) = e
one_clock true n m (inr i) = absurd i
one_clock false n m i = absurd i

output_of : (d : Direction) (p : Port) (s : SizedNet) → In (output_net d p) s → (d ≡ Output) × (p.name ≡ s.0)
output_of Input p s m = absurd m
output_of Output p s m = (refl, one_net p.is_clock p.name p.width s m)

clock_output_of : (d : Direction) (p : Port) (n : List ℕ) → In (output_clock d p) n → (d ≡ Output) × (p.name ≡ n)
clock_output_of Input p n m = absurd m
clock_output_of Output p n m = (refl, one_clock p.is_clock p.name n m)

module _ (v : Verilog) where
  pub wire_at : (s : SizedNet) → In (wires v) s → (n : Net) × In v.items (item.Wire n) × (n.name ≡ s.0)
  wire_at s m =
      let r = in_flat_map_from wire_net v.items s m in
      let q = wire_of r.0 s r.2 in
      (q.0, subst (In v.items) q.1 r.1, q.2)

  pub wire_in : (n : Net) → In v.items (item.Wire n) → In (wires v) (n.name, n.width)
  wire_in n m = in_flat_map wire_net v.items (item.Wire n) (n.name, n.width) m (inl refl)

  pub output_at : (s : SizedNet) → In (output_nets v) s → (p : Port) × In v.ports p × (p.direction ≡ Output) × (p.name ≡ s.0)
  output_at s m =
      let r = in_flat_map_from (λ p. output_net p.direction p) v.ports s m in
      let q = output_of r.0.direction r.0 s r.2 in
      (r.0, r.1, q.0, q.1)

  pub clock_output_at : (n : List ℕ) → In (output_clocks v) n → (p : Port) × In v.ports p × (p.direction ≡ Output) × (p.name ≡ n)
  clock_output_at n m =
      let r = in_flat_map_from (λ p. output_clock p.direction p) v.ports n m in
      let q = clock_output_of r.0.direction r.0 n r.2 in
      (r.0, r.1, q.0, q.1)

  pub output_in : (p : Port) → In v.ports p → p.direction ≡ Output → p.is_clock ≡ false → In (output_nets v) (p.name, p.width)
  output_in p m d c =
      in_flat_map (λ p. output_net p.direction p) v.ports p (p.name, p.width) m
      (subst (λ (x : Direction). In {A = SizedNet} (output_net x p) (p.name, p.width)) (sym d)
      (subst (λ (b : Bool). In {A = SizedNet} (if b then [] else ((p.name, p.width) ∷ [])) (p.name, p.width)) (sym c) (inl refl)))

  pub clock_output_in : (p : Port) → In v.ports p → p.direction ≡ Output → p.is_clock ≡ true → In (output_clocks v) p.name
  clock_output_in p m d c =
      in_flat_map (λ p. output_clock p.direction p) v.ports p p.name m
      (subst (λ (x : Direction). In (output_clock x p) p.name) (sym d)
      (subst (λ (b : Bool). In (if b then p.name ∷ [] else []) p.name) (sym c) (inl refl)))
