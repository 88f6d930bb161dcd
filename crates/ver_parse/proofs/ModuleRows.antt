-- The steps at blocks, items, ports and modules, each told of its trees.
use Rattle.std.proofs.Common.{◌≡◌, ◌≢◌, ℕ, zero, suc, ◌+◌, ◌-◌, ◌^◌, ◌<◌, List, [], ◌∷◌, ◌++◌, flat_map, min, Bool, true, false, ◌&&◌, nat_eq, nat_lt, if◌then◌else◌, Option, Some, None, codes, refl, sym, ap, ◌∙◌, subst, append_assoc, arith}
use Rattle.std.specs.Str.{bytes_eq}
use Rattle.std.proofs.lemmas.Bool.{ne_eqb, ltb-true, ltb-false}
use Rattle.std.specs.List.{AllByRecursion}
use Rattle.fir_base.specs.declared.direction.Direction.{Direction}
use Rattle.ver_words.specs.Names.{IsName}
use Rattle.ver_ast.specs.declared.tree.Constant.{Constant}
use Rattle.ver_ast.specs.declared.tree.Item.TheVariants as item
use Rattle.ver_ast.specs.declared.tree.Port.{Port}
use Rattle.ver_ast.specs.declared.tree.Write.{Write}
use Rattle.ver_ast.specs.AtomForms.{constant_number}
use Rattle.ver_ast.specs.Grammar.{direction_keyword, range_tokens, mark_tokens, port_tokens, next_port_tokens, ports_tokens, atom_tokens, rhs_tokens, write_tokens, item_tokens}
use Rattle.ver_ast.specs.ItemNames.{write_names}
use Rattle.ver_ast.specs.Names.{atom_names}
use Rattle.ver_ast.specs.Spells.{IsAlike, counted, AreVerilogNames, CountsConstant, IsInType, HasItemNames, HasNumberInType}
use Rattle.ver_ast.specs.Tokens.{VToken, word, digit_zero, number, constant, sign, double, signed_shift, signed_word, question_digit}
use Rattle.ver_parse.specs.declared.keyword.Keyword.{Keyword}
use Rattle.ver_parse.specs.declared.keyword.Keyword.TheVariants as key
use Rattle.ver_parse.specs.working.Symbols.{Symbol, a_token, a_name, a_number, a_constant, a_range, a_mark, a_direction, ports, more_ports, items, an_item, behind_register, behind_edge, a_block, writes, an_atom}
use Rattle.ver_parse.specs.working.Steps.{Step, takes, skips, refuses, is_name, same_token, name_step, number_step, constant_step, range_step, mark_step, direction_of, by_direction, direction_step, ports_step, more_ports_step, keyword_of, keyword_word, behind_keyword, by_keyword, item_step, items_step, register_step, source, reset_value, edge_step, block_step, writes_step, only_if}
use Rattle.ver_parse.proofs.Heads.{named}
use Rattle.ver_parse.proofs.Loops.{all_append}
use Rattle.ver_parse.proofs.Trees.{Named, NamedAtom, SoundConstant, NamedPorts, NamedWrites, SoundItem, SoundItems, BlockTree, resets, writes_all, stores, EdgeTree, one_edge, two_edges, register_tokens, reset_tokens, source_tokens, block_tokens, edge_tokens, Tree, spell, Trees, spell_all}
use Rattle.ver_parse.proofs.Made.{Makes, Tells, if_so, only_so, is_sign, is_word_of, is_double, direction_is, keyword_is}

-- ---- single tokens

pub tells_name : (t : VToken) → Tells a_name t (name_step t [])
tells_name (word w) = only_so a_name (word w) (is_name w) [] (λ h x. record { tree = (w, named w h); token = word w; alike = refl; spelled = λ rest. refl })
tells_name _ = tt

zero_counts : IsAlike (number 0) digit_zero
zero_counts = refl

pub tells_number : (t : VToken) → Tells a_number t (number_step t [])
tells_number digit_zero = λ x. record { tree = 0; token = number 0; alike = zero_counts; spelled = λ rest. refl }
tells_number (number n) = λ x. record { tree = counted n; token = number (counted n); alike = refl; spelled = λ rest. refl }
tells_number _ = tt

record ConstantFor (w v : ℕ) : Type 0 where
  tree : SoundConstant
  counts : CountsConstant tree.0.width (constant_number tree.0) (constant w v)

constant_by : (w v : ℕ) (b : Bool) → nat_lt v (2 ^ 128) ≡ b → ConstantFor w v
constant_by w v true e = let low : v < 2 ^ 128 = ltb-true v (2 ^ 128) e in record { tree = (record { width = counted w; number = Some v }, low); counts = (refl, omega arith) }
constant_by w v false e = let high = ltb-false v (2 ^ 128) e in record { tree = (record { width = counted w; number = None }, tt); counts = (refl, omega arith) }

pub tells_constant : (t : VToken) → Tells a_constant t (constant_step t [])
tells_constant (constant w v) =
    λ x.
    let c : ConstantFor w v = constant_by w v (nat_lt v (2 ^ 128)) refl in
    record { tree = c.tree; token = constant c.tree.0.width (constant_number c.tree.0); alike = c.counts; spelled = λ rest. refl }
tells_constant _ = tt

-- ---- ports

record WidthFor (n : ℕ) : Type 0 where
  width : ℕ
  range : range_tokens width ≡ sign 91 ∷ number n ∷ sign 58 ∷ digit_zero ∷ sign 93 ∷ []

more_than_one : (n : ℕ) → nat_eq (suc (suc n)) 1 ≡ false
more_than_one n = ne_eqb (suc (suc n)) 1 (λ e. let f : suc n ≡ 0 = omega arith in absurd (cc))

one_less : (n : ℕ) → suc (suc n) - 1 ≡ suc n
one_less n = omega arith

width_for : (n : ℕ) → WidthFor n
width_for zero = record { width = 0; range = refl }
width_for (suc n) = record { width = suc (suc n); range = rw (more_than_one n, one_less n) refl }

pub tells_range : (t : VToken) → Tells a_range t (range_step t)
tells_range (sign b) =
    if_so a_range (sign b) (nat_eq b 91) (takes (a_number ∷ a_token (sign 58) ∷ a_token digit_zero ∷ a_token (sign 93) ∷ [])) skips
    (λ h x. let w = width_for x.0 in record { tree = w.width; token = sign 91; alike = is_sign b 91 h; spelled = λ rest. ap (λ l. l ++ rest) w.range }) (1, λ rest. refl)
tells_range _ = (1, λ rest. refl)

pub tells_mark : (t : VToken) → Tells a_mark t (mark_step t)
tells_mark (double a b) =
    if_so a_mark (double a b) (nat_eq a 40 && nat_eq b 42) (takes (a_token (word (codes "clock")) ∷ a_token (double 42 41) ∷ [])) skips
    (λ h x. record { tree = true; token = double 40 42; alike = is_double a b 40 42 h; spelled = λ rest. refl }) (false, λ rest. refl)
tells_mark _ = (false, λ rest. refl)

with_direction : (s : Symbol) (t : VToken) (o : Option Direction) (ss : List Symbol) → ((d : Direction) → o ≡ Some d → Tells s t (takes ss)) → Tells s t (by_direction o ss)
with_direction s t (Some d) ss p = p d refl
with_direction s t None ss p = tt

pub tells_direction : (t : VToken) → Tells a_direction t (direction_step t [])
tells_direction (word w) =
    with_direction a_direction (word w) (direction_of w) []
    (λ d e x. record { tree = d; token = word (direction_keyword d); alike = direction_is w d e; spelled = λ rest. refl })
tells_direction _ = tt

abbrev port_of : Bool → Direction → ℕ → Named → Port
port_of is_clock d w n = record { is_clock = is_clock; direction = d; width = w; name = n.0 }

-- a first port, and others behind it
abbrev with_port : Bool → Direction → ℕ → Named → NamedPorts → NamedPorts
with_port is_clock d w n ps = (port_of is_clock d w n ∷ ps.0, (n.1, ps.1))

-- the tokens behind a mark
abbrev behind_mark : Direction → ℕ → Named → NamedPorts → List VToken → List VToken
behind_mark d w n ps rest = word (direction_keyword d) ∷ range_tokens w ++ (word n.0 ∷ flat_map next_port_tokens ps.0 ++ sign 41 ∷ rest)

regrouped : (mark range more rest : List VToken) (d n : VToken) → (mark ++ d ∷ range ++ n ∷ []) ++ more ++ rest ≡ mark ++ (d ∷ range ++ (n ∷ more ++ rest))
regrouped mark range more rest d n = simp append_assoc

ports_spelled : (is_clock : Bool) (d : Direction) (w : ℕ) (n : Named) (ps : NamedPorts) (rest : List VToken) → ports_tokens (with_port is_clock d w n ps).0 ++ sign 41 ∷ rest ≡ mark_tokens is_clock ++ behind_mark d w n ps rest
ports_spelled is_clock d w n ps rest = regrouped (mark_tokens is_clock) (range_tokens w) (flat_map next_port_tokens ps.0) (sign 41 ∷ rest) (word (direction_keyword d)) (word n.0)

pub tells_ports : (t : VToken) → Tells ports t (ports_step t)
tells_ports (sign b) = only_so ports (sign b) (nat_eq b 41) [] (λ h x. record { tree = ([], tt); token = sign 41; alike = is_sign b 41 h; spelled = λ rest. refl })
tells_ports (double a b) =
    only_so ports (double a b) (nat_eq a 40 && nat_eq b 42) _
    (λ h x. record {
      tree = with_port true x.1.1.0 x.1.1.1.0 x.1.1.1.1.0 x.1.1.1.1.1.0;
      token = double 40 42;
      alike = is_double a b 40 42 h;
      spelled = λ rest. ports_spelled true x.1.1.0 x.1.1.1.0 x.1.1.1.1.0 x.1.1.1.1.1.0 rest;
    })
tells_ports (word w) =
    with_direction ports (word w) (direction_of w) _
    (λ d e x. record {
      tree = with_port false d x.0 x.1.0 x.1.1.0;
      token = word (direction_keyword d);
      alike = direction_is w d e;
      spelled = λ rest. ports_spelled false d x.0 x.1.0 x.1.1.0 rest;
    })
tells_ports _ = tt

pub tells_more_ports : (t : VToken) → Tells more_ports t (more_ports_step t)
tells_more_ports (sign b) =
    if_so more_ports (sign b) (nat_eq b 44) (takes (a_mark ∷ a_direction ∷ a_range ∷ a_name ∷ more_ports ∷ [])) _
    (λ h x. record {
      tree = with_port x.0 x.1.0 x.1.1.0 x.1.1.1.0 x.1.1.1.1.0;
      token = sign 44;
      alike = is_sign b 44 h;
      spelled = λ rest. ap (λ l. sign 44 ∷ l) (ports_spelled x.0 x.1.0 x.1.1.0 x.1.1.1.0 x.1.1.1.1.0 rest);
    })
    (only_so more_ports (sign b) (nat_eq b 41) [] (λ h x. record { tree = ([], tt); token = sign 41; alike = is_sign b 41 h; spelled = λ rest. refl }))
tells_more_ports _ = tt

-- ---- blocks

pub tells_edge : (t : VToken) → Tells behind_edge t (edge_step t)
tells_edge (sign b) = only_so behind_edge (sign b) (nat_eq b 41) (a_block ∷ []) (λ h x. record { tree = one_edge x.0; token = sign 41; alike = is_sign b 41 h; spelled = λ rest. refl })
tells_edge (word w) =
    only_so behind_edge (word w) (bytes_eq w (codes "or")) _
    (λ h x. record {
      tree = two_edges x.1.0 x.1.1.1.1.1.0 x.1.1.1.1.1.1.1.0 x.1.1.1.1.1.1.1.1.1.0 x.1.1.1.1.1.1.1.1.1.1.1.1.0 x.1.1.1.1.1.1.1.1.1.1.1.1.1.1.0;
      token = word (codes "or");
      alike = is_word_of w (codes "or") h;
      spelled = λ rest. refl;
    })
tells_edge _ = tt

pub tells_block : (t : VToken) → Tells a_block t (block_step t)
tells_block (word w) =
    if_so a_block (word w) (bytes_eq w (codes "if")) (takes (reset_value [])) _
    (λ h x. record { tree = resets x.1.0 x.1.1.1.0 x.1.1.1.1.1.0; token = word (codes "if"); alike = is_word_of w (codes "if") h; spelled = λ rest. refl })
    (if_so a_block (word w) (bytes_eq w (codes "begin")) (takes (writes ∷ [])) _
    (λ h x. record { tree = writes_all x.0; token = word (codes "begin"); alike = is_word_of w (codes "begin") h; spelled = λ rest. refl })
    (only_so a_block (word w) (is_name w) (source []) (λ h x. record { tree = stores (w, named w h) x.1.0; token = word w; alike = refl; spelled = λ rest. refl })))
tells_block _ = tt

abbrev write_of : NamedAtom → Named → NamedAtom → NamedAtom → Write
write_of c n i a = record { condition = c.0; array = n.0; index = i.0; source = a.0 }

-- a first write, and others behind it
abbrev with_write : NamedAtom → Named → NamedAtom → NamedAtom → NamedWrites → NamedWrites
with_write c n i a ws =
    (write_of c n i a ∷ ws.0, all_append IsName (write_names (write_of c n i a)) _ (n.1, all_append IsName (atom_names c.0 ++ atom_names i.0) (atom_names a.0) (all_append IsName (atom_names c.0) (atom_names i.0) c.1 i.1) a.1) ws.1)

write_regrouped : (c i a more rest : List VToken) (t u v w x y z : VToken) → (t ∷ u ∷ c ++ v ∷ w ∷ x ∷ i ++ y ∷ z ∷ a ++ sign 59 ∷ []) ++ more ++ rest ≡ t ∷ u ∷ c ++ (v ∷ w ∷ x ∷ i ++ (y ∷ z ∷ a ++ (sign 59 ∷ more ++ rest)))
write_regrouped c i a more rest t u v w x y z = simp append_assoc

pub tells_writes : (t : VToken) → Tells writes t (writes_step t)
tells_writes (word w) =
    if_so writes (word w) (bytes_eq w (codes "if")) (takes _) _
    (λ h x. record {
      tree = with_write x.1.0 x.1.1.1.0 x.1.1.1.1.1.0 x.1.1.1.1.1.1.1.1.0 x.1.1.1.1.1.1.1.1.1.1.0;
      token = word (codes "if");
      alike = is_word_of w (codes "if") h;
      spelled = λ rest. write_regrouped (atom_tokens x.1.0.0) (atom_tokens x.1.1.1.1.1.0.0) (atom_tokens x.1.1.1.1.1.1.1.1.0.0) (flat_map write_tokens x.1.1.1.1.1.1.1.1.1.1.0.0) (word (codes "end") ∷ rest) (word (codes "if")) (sign 40) (sign 41) (word x.1.1.1.0.0) (sign 91) (sign 93) (double 60 61);
    })
    (only_so writes (word w) (bytes_eq w (codes "end")) [] (λ h x. record { tree = ([], tt); token = word (codes "end"); alike = is_word_of w (codes "end") h; spelled = λ rest. refl }))
tells_writes _ = tt

-- ---- items

pub tells_register : (t : VToken) → Tells behind_register t (register_step t)
tells_register (sign b) =
    if_so behind_register (sign b) (nat_eq b 59) (takes []) _ (λ h x. record { tree = None; token = sign 59; alike = is_sign b 59 h; spelled = λ rest. refl })
    (only_so behind_register (sign b) (nat_eq b 91) _ (λ h x. record { tree = Some x.1.1.0; token = sign 91; alike = is_sign b 91 h; spelled = λ rest. refl }))
tells_register _ = tt

-- an item, and the tokens behind its first word
pub record ItemWith (k : Keyword) (behind : List VToken → List VToken) : Type 0 where
  pub tree : SoundItem
  pub spelled : (rest : List VToken) → item_tokens tree.0 ++ rest ≡ word (keyword_word k) ∷ behind rest

register_item : (w : ℕ) (n : Named) (o : Option ℕ) → ItemWith key.Reg (λ rest. range_tokens w ++ (word n.0 ∷ register_tokens o rest))
register_item w n None = record {
  tree = (item.Reg (record { width = w; name = n.0 }), ((n.1, tt), tt), tt);
  spelled = λ rest. ap (λ l. word (codes "reg") ∷ l) (append_assoc (range_tokens w) (word n.0 ∷ sign 59 ∷ []) rest);
}
register_item w n (Some last) = record {
  tree = (item.Array (record { width = w; last = last; name = n.0 }), ((n.1, tt), tt), tt);
  spelled = λ rest. ap (λ l. word (codes "reg") ∷ l) (append_assoc (range_tokens w) (word n.0 ∷ sign 91 ∷ digit_zero ∷ sign 58 ∷ number last ∷ sign 93 ∷ sign 59 ∷ []) rest);
}

abbrev behind_always : Named → EdgeTree → List VToken → List VToken
behind_always clock e rest = sign 64 ∷ sign 40 ∷ word (codes "posedge") ∷ word clock.0 ∷ edge_tokens e rest

block_item : (clock : Named) (e : EdgeTree) → ItemWith key.Always (behind_always clock e)
block_item clock (one_edge (resets tested target c)) = record {
  tree = (item.Resetting (record { reset = clock.0; tested = tested.0; target = target.0; value = c.0; edge = None }), (tt, (clock.1, (tested.1, (target.1, tt)))), c.1);
  spelled = λ rest. refl;
}
block_item clock (one_edge (writes_all ws)) = record {
  tree = (item.Writing (record { clock = clock.0; writes = ws.0 }), (tt, (clock.1, ws.1)), tt);
  spelled =
      λ rest.
      ap (λ l. word (codes "always") ∷ sign 64 ∷ sign 40 ∷ word (codes "posedge") ∷ word clock.0 ∷ sign 41 ∷ word (codes "begin") ∷ l) (append_assoc (flat_map write_tokens ws.0) (word (codes "end") ∷ []) rest);
}
block_item clock (one_edge (stores n a)) = record {
  tree = (item.Always (record { clock = clock.0; target = n.0; source = a.0 }), (tt, (clock.1, (n.1, a.1))), tt);
  spelled =
      λ rest.
      ap (λ l. word (codes "always") ∷ sign 64 ∷ sign 40 ∷ word (codes "posedge") ∷ word clock.0 ∷ sign 41 ∷ word n.0 ∷ double 60 61 ∷ l) (append_assoc (atom_tokens a.0) (sign 59 ∷ []) rest);
}
block_item clock (two_edges reset tested target c again a) = record {
  tree = (
    item.Resetting (record { reset = reset.0; tested = tested.0; target = target.0; value = c.0; edge = Some (record { clock = clock.0; target = again.0; source = a.0 }) }),
    (tt, (reset.1, (tested.1, (target.1, (clock.1, (again.1, a.1)))))),
    c.1,
  );
  spelled =
      λ rest.
      ap
      (λ l.
      word (codes "always") ∷ sign 64 ∷ sign 40 ∷ word (codes "posedge") ∷ word clock.0 ∷ word (codes "or") ∷ word (codes "posedge") ∷ word reset.0 ∷ sign 41 ∷ word (codes "if")
      ∷ reset_tokens tested target c (word (codes "else") ∷ word again.0 ∷ double 60 61 ∷ l)) (append_assoc (atom_tokens a.0) (sign 59 ∷ []) rest);
}

pub item_with : (k : Keyword) (x : Trees (behind_keyword k)) → ItemWith k (spell_all (behind_keyword k) x)
item_with key.Wire x = record {
  tree = (item.Wire (record { width = x.0; name = x.1.0.0 }), ((x.1.0.1, tt), tt), tt);
  spelled = λ rest. ap (λ l. word (codes "wire") ∷ l) (append_assoc (range_tokens x.0) (word x.1.0.0 ∷ sign 59 ∷ []) rest);
}
item_with key.Reg x = register_item x.0 x.1.0 x.1.1.0
item_with key.Assign x = record {
  tree = (item.Assign (record { target = x.0.0; rhs = x.1.1.0.0 }), (tt, (x.0.1, x.1.1.0.1)), tt);
  spelled = λ rest. ap (λ l. word (codes "assign") ∷ word x.0.0 ∷ sign 61 ∷ l) (append_assoc (rhs_tokens x.1.1.0.0) (sign 59 ∷ []) rest);
}
item_with key.Always x = block_item x.1.1.1.0 x.1.1.1.1.0

with_keyword : (s : Symbol) (t : VToken) (o : Option Keyword) (ss : List Symbol) → ((k : Keyword) → o ≡ Some k → Tells s t (takes (behind_keyword k ++ ss))) → Tells s t (by_keyword o ss)
with_keyword s t (Some k) ss p = p k refl
with_keyword s t None ss p = tt

-- ---- trees of symbols one behind another

pub record Split (ss todo : List Symbol) (x : Trees (ss ++ todo)) : Type 0 where
  pub first : Trees ss
  pub others : Trees todo
  pub spelled : (rest : List VToken) → spell_all (ss ++ todo) x rest ≡ spell_all ss first (spell_all todo others rest)

pub split : (ss todo : List Symbol) (x : Trees (ss ++ todo)) → Split ss todo x
split [] todo x = record { first = tt; others = x; spelled = λ rest. refl }
split (s ∷ ss) todo x =
    let p = split ss todo x.1 in
    record { first = (x.0, p.first); others = p.others; spelled = λ rest. ap (λ l. spell s x.0 l) (p.spelled rest) }

one_item : (w : List ℕ) (k : Keyword) (x : Trees (behind_keyword k ++ [])) → word (keyword_word k) ≡ word w → Makes an_item (word w) (spell_all (behind_keyword k ++ []) x)
one_item w k x e =
    let p = split (behind_keyword k) [] x in
    let i = item_with k p.first in
    record { tree = i.tree; token = word (keyword_word k); alike = e; spelled = λ rest. i.spelled rest ∙ ap (λ l. word (keyword_word k) ∷ l) (sym (p.spelled rest)) }

pub tells_item : (t : VToken) → Tells an_item t (item_step t [])
tells_item (word w) = with_keyword an_item (word w) (keyword_of w) [] (λ k e x. one_item w k x (keyword_is w k e))
tells_item _ = tt

abbrev with_item : SoundItem → SoundItems → SoundItems
with_item i is = (i.0 ∷ is.0, (i.1, is.1), (i.2, is.2))

more_items : (w : List ℕ) (k : Keyword) (x : Trees (behind_keyword k ++ items ∷ [])) → word (keyword_word k) ≡ word w → Makes items (word w) (spell_all (behind_keyword k ++ items ∷ []) x)
more_items w k x e =
    let p = split (behind_keyword k) (items ∷ []) x in
    let i = item_with k p.first in
    let is : SoundItems = p.others.0 in
    record {
      tree = with_item i.tree is;
      token = word (keyword_word k);
      alike = e;
      spelled =
          λ rest.
          append_assoc (item_tokens i.tree.0) (flat_map item_tokens is.0) (word (codes "endmodule") ∷ rest)
          ∙ i.spelled (flat_map item_tokens is.0 ++ word (codes "endmodule") ∷ rest)
          ∙ ap (λ l. word (keyword_word k) ∷ l) (sym (p.spelled rest));
    }

pub tells_items : (t : VToken) → Tells items t (items_step t)
tells_items (word w) =
    if_so items (word w) (bytes_eq w (codes "endmodule")) (takes []) _
    (λ h x. record { tree = ([], tt, tt); token = word (codes "endmodule"); alike = is_word_of w (codes "endmodule") h; spelled = λ rest. refl })
    (with_keyword items (word w) (keyword_of w) (items ∷ []) (λ k e x. more_items w k x (keyword_is w k e)))
tells_items _ = tt
