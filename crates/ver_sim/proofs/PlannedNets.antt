-- The places of inputs, and the registers that show words.
use Rattle.std.proofs.Common.{◌≡◌, ℕ, List, [], ◌∷◌, ◌++◌, map, cond, false, Bool, refl, sym, ap, ◌∙◌, inl, subst}
use Rattle.std.specs.Prelude.{flat_map, filter, not}
use Rattle.fir_base.specs.declared.direction.Direction.{Direction}
use Rattle.fir_base.specs.declared.direction.Direction.TheVariants.{Input, Output}
use Rattle.fir_base.specs.Lists.{In}
use Rattle.fir_base.specs.Words.{is_among}
use Rattle.fir_base.proofs.Members.{in_map, in_left, in_flat_map}
use Rattle.ver_ast.specs.declared.tree.Verilog.{Verilog}
use Rattle.ver_ast.specs.declared.tree.Net.{Net}
use Rattle.ver_ast.specs.declared.tree.Port.{Port}
use Rattle.ver_ast.specs.declared.tree.Item.{Item}
use Rattle.ver_ast.specs.declared.tree.Item.TheVariants as item
use Rattle.ver_ast.specs.Nets.{SizedNet, nets, regs, input_net, input_nets, output_net, port_net, port_nets, item_net, reg_net, reset_targets, names_of}
use Rattle.ver_ast.proofs.Nets.{reg_is_net, source_is_net}
use Rattle.ver_sim.specs.declared.declarations.Span.{Span}
use Rattle.ver_sim.specs.declared.shown.ShownWord.{ShownWord}
use Rattle.ver_sim.specs.declared.tables.Tables.{Tables}
use Rattle.ver_sim.specs.working.Valued.{place_among, valued}
use Rattle.ver_sim.specs.working.Inputs.{IsPlaceOf}
use Rattle.ver_sim.specs.working.Pairs.{EachPair, Appends}
use Rattle.ver_sim.specs.working.ShownWords.{IsShownOf}
use Rattle.ver_sim.specs.working.Tables.{Know}
use Rattle.ver_sim.proofs.KnownNames.{net_is_valued}
use Rattle.ver_sim.proofs.PairLists.{one_more}
use Rattle.ver_sim.proofs.ProcessTasks.{TellsSpan, register_named}
use Rattle.ver_sim.proofs.ReadForms.{TellsPlace}

net_named : (v : Verilog) (s : SizedNet) → In (nets v) s → In (names_of (nets v)) s.0
net_named v s m = in_map (λ (n : SizedNet). n.0) (nets v) s m

pub input_put : (v : Verilog) (t : Tables) → Know v t → (p : Port) (k : ℕ) (old new : List ℕ) → p.direction ≡ Input → p.is_clock ≡ false → In v.ports p → TellsPlace t p.name k
    → new ≡ old ++ k ∷ [] → Appends (IsPlaceOf v) old new (input_net p.direction p)
input_put v t know p k old new d c m tells n =
    let parts : input_net p.direction p ≡ (p.name, p.width) ∷ [] =
    ap (λ (e : Direction). input_net e p) d ∙ ap (λ (b : Bool). cond b [] ((p.name, p.width) ∷ [])) c in
    let known : In (input_nets v) (p.name, p.width) =
    in_flat_map (λ (q : Port). input_net q.direction q) v.ports p (p.name, p.width) m (subst (λ (xs : List SizedNet). In xs (p.name, p.width)) (sym parts) (inl refl)) in
    let net = source_is_net v (p.name, p.width) (in_left (input_nets v) (regs v) (p.name, p.width) known) in
    subst (Appends (IsPlaceOf v) old new) (sym parts)
    (one_more (IsPlaceOf v) old new k (p.name, p.width) n (tells v know (net_is_valued v p.name (net_named v (p.name, p.width) net))))

pub output_put : (v : Verilog) (t : Tables) → Know v t → (p : Port) (k : ℕ) (old new : List ℕ) → p.direction ≡ Output → p.is_clock ≡ false → In v.ports p → TellsPlace t p.name k
    → new ≡ old ++ k ∷ [] → Appends (IsPlaceOf v) old new (output_net p.direction p)
output_put v t know p k old new d c m tells n =
    let net_is : port_net p ≡ (p.name, p.width) ∷ [] = ap (λ (b : Bool). cond b [] ((p.name, p.width) ∷ [])) c in
    let parts : output_net p.direction p ≡ (p.name, p.width) ∷ [] = ap (λ (e : Direction). output_net e p) d ∙ net_is in
    let net : In (nets v) (p.name, p.width) =
    in_left (port_nets v) (flat_map item_net v.items) (p.name, p.width)
    (in_flat_map port_net v.ports p (p.name, p.width) m (subst (λ (xs : List SizedNet). In xs (p.name, p.width)) (sym net_is) (inl refl))) in
    subst (Appends (IsPlaceOf v) old new) (sym parts)
    (one_more (IsPlaceOf v) old new k (p.name, p.width) n (tells v know (net_is_valued v p.name (net_named v (p.name, p.width) net))))

pub places_are : (v : Verilog) (ks : List ℕ) (ns : List SizedNet) → EachPair (IsPlaceOf v) ks ns → ks ≡ map (place_among (valued v)) (names_of ns)
places_are v [] [] h = refl
places_are v [] (n ∷ ns) h = absurd h
places_are v (k ∷ ks) [] h = absurd h
places_are v (k ∷ ks) (n ∷ ns) h = rw (h.0, places_are v ks ns h.1) refl

pub shown_put : (v : Verilog) (t : Tables) → Know v t → (i : Item) (r : Net) (place : ℕ) (span : Span) (old new : List ShownWord) → i ≡ item.Reg r
    → is_among (reset_targets v) r.name ≡ false → In v.items i → TellsPlace t r.name place → TellsSpan t r.name span
    → new ≡ old ++ record { net = place; word = span.base } ∷ [] → Appends (IsShownOf v) old new (filter (λ s. not (is_among (reset_targets v) s.0)) (reg_net i))
shown_put v t know i r place span old new e f m tells_place tells_span n =
    let one : reg_net i ≡ (r.name, r.width) ∷ [] = ap reg_net e in
    let parts : filter (λ (s : SizedNet). not (is_among (reset_targets v) s.0)) (reg_net i) ≡ (r.name, r.width) ∷ [] =
    ap (filter (λ (s : SizedNet). not (is_among (reset_targets v) s.0))) one ∙ ap (λ (b : Bool). cond (not b) ((r.name, r.width) ∷ []) []) f in
    let known : In (regs v) (r.name, r.width) = in_flat_map reg_net v.items i (r.name, r.width) m (subst (λ (xs : List SizedNet). In xs (r.name, r.width)) (sym one) (inl refl)) in
    let net = net_named v (r.name, r.width) (reg_is_net v (r.name, r.width) known) in
    subst (Appends (IsShownOf v) old new) (sym parts)
    (one_more (IsShownOf v) old new (record { net = place; word = span.base }) (r.name, r.width) n
    (record {
      net_is = tells_place v know (net_is_valued v r.name net);
      word_is = ap (λ (s : Span). s.base) (tells_span v know (register_named v r.name r.width known));
    }))
