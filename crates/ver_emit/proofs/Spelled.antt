-- The layout of a valid tree spells that tree.
use Rattle.std.proofs.Common.{◌≡◌, ℕ, ◌^◌, ◌<◌, ◌≤◌, [], ◌∷◌, ◌++◌, Bool, true, false, Option, Some, None, inl, refl, sym, ap, subst, append_assoc, arith}
use Rattle.std.specs.Prelude.{codes, flat_map}
use Rattle.std.proofs.Math.Nat.{pow-le-pow_right}
use Rattle.fir_base.specs.Lists.{In}
use Rattle.fir_base.proofs.Each.{all_from}
use Rattle.fir_base.proofs.Members.{in_left, in_flat_map}
use Rattle.ver_ast.specs.declared.tree.Verilog.{Verilog}
use Rattle.ver_ast.specs.declared.tree.Port.{Port}
use Rattle.ver_ast.specs.declared.tree.Item.{Item}
use Rattle.ver_ast.specs.declared.tree.Item.TheVariants as item
use Rattle.ver_ast.specs.AtomForms.{number_of}
use Rattle.ver_ast.specs.Spells.{HasNames, IsInType, HasNumberInType, places_of}
use Rattle.ver_ast.specs.Valid.{Valid, IsResetting}
use Rattle.ver_ast.specs.Nets.{port_net, port_nets, item_net, item_block, resetting_block}
use Rattle.ver_ast.specs.Tokens.{word, sign}
use Rattle.ver_ast.specs.working.TokenSteps.{tokens_from}
use Rattle.ver_ast.specs.working.Laws.{TokensAreReadStepByStep, SpellsButPlaces}
use Rattle.ver_ast.specs.Grammar.{ports_tokens, item_tokens, module_tokens}
use Rattle.ver_ast.proofs.Alike.{AlikeEach, alike_with_places}
use Rattle.ver_ast.proofs.Nets.{reg_is_net}
use Rattle.ver_emit.specs.Layout.{ports_text, item_text, layout}
use Rattle.ver_emit.proofs.ReadText.{Reads, moved}
use Rattle.ver_emit.proofs.Fixed.{fixed_spelled}
use Rattle.ver_emit.proofs.Words.{word_spelled, parenthesis_spelled}
use Rattle.ver_emit.proofs.Ports.{IsNarrow, ports_spelled, ports_open_no_mark}
use Rattle.ver_emit.proofs.Items.{items_spelled}

end_spelled : Reads (codes "endmodule\n") (word (codes "endmodule") ∷ [])
unfolding tokens_from
end_spelled = record { read = word (codes "endmodule") ∷ []; is_read = refl; alike = (refl, tt) }

module _ (v : Verilog) (valid : Valid v) (named : HasNames v) where
  narrow_port : (p : Port) → In v.ports p → IsNarrow p
  narrow_port p i = by p.is_clock refl
    where
      by : (b : Bool) → p.is_clock ≡ b → IsNarrow p
      by true e = let one = valid.plain_clocks p i e in (omega (arith, one), omega (arith, one))
      by false e =
          let here : In (port_net p) (p.name, p.width) = rw e (inl refl) in
          valid.narrow p.name p.width
          (in_left (port_nets v) (flat_map item_net v.items) (p.name, p.width) (in_flat_map port_net v.ports p (p.name, p.width) i here))

  layout_read : Reads (layout v) (module_tokens v)
  unfolding layout
  layout_read =
      let items = items_spelled v valid v.items _ _ (λ i m. m) named.of_items end_spelled in
      let ports = ports_spelled v.ports _ _ (all_from IsNarrow v.ports narrow_port) named.of_ports (fixed_spelled (codes ");\n") _ _ _ refl refl items) in
      let name = word_spelled v.name _ _ named.of_module.spelled refl (parenthesis_spelled _ _ (ports_open_no_mark v.ports _) ports) in
      let grouped : layout v ≡ codes "module "
      ++ (v.name ++ (codes "(" ++ (ports_text v.ports ++ (codes ");\n" ++ (flat_map item_text v.items ++ codes "endmodule\n"))))) =
      simp append_assoc in
      let same = append_assoc (ports_tokens v.ports) (sign 41 ∷ sign 59 ∷ flat_map item_tokens v.items) (word (codes "endmodule") ∷ []) in
      moved _ _ _ _ grouped (fixed_spelled (codes "module ") _ _ _ refl refl name) (ap (λ ts. word (codes "module") ∷ word v.name ∷ sign 40 ∷ ts) (sym same))

  number_in_type : (i : Item) → In v.items i → HasNumberInType i
  number_in_type (item.Resetting b) m =
      let sound : IsResetting v b = valid.sound_blocks (resetting_block b) (in_flat_map item_block v.items (item.Resetting b) (resetting_block b) m (inl refl)) in
      let narrow = valid.narrow b.target b.value.width (reg_is_net v (b.target, b.value.width) sound.register) in
      let most : 2 ^ b.value.width ≤ 2 ^ 128 = pow-le-pow_right (omega arith) narrow.1 in
      by b.value.number (omega (arith, sound.constant_fits, most))
    where
      by : (o : Option ℕ) → number_of o < 2 ^ 128 → IsInType o
      by None h = tt
      by (Some x) h = h
  number_in_type (item.Wire n) m = tt
  number_in_type (item.Reg n) m = tt
  number_in_type (item.Array a) m = tt
  number_in_type (item.Assign a) m = tt
  number_in_type (item.Always b) m = tt
  number_in_type (item.Writing b) m = tt

  pub layout_spells : TokensAreReadStepByStep → SpellsButPlaces (layout v) v
  layout_spells law =
      let placed = (law (layout v) layout_read.read).0 layout_read.is_read in (
        places_of placed.0,
        record {
          tokens = placed.0;
          of_text = placed.1;
          tokens_are = alike_with_places (module_tokens v) placed.0 (subst (AlikeEach (module_tokens v)) (sym placed.2) layout_read.alike);
          places_are = refl;
          names = record { of_module = named.of_module; of_ports = named.of_ports; of_items = named.of_items };
          numbers = all_from HasNumberInType v.items number_in_type;
        },
      )
