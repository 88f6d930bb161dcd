-- The tokens of ports, blocks and items are read.
use Rattle.std.proofs.Common.{◌≡◌, ℕ, ◌-◌, List, [], ◌∷◌, ◌++◌, flat_map, Bool, true, false, nat_eq, if◌then◌else◌, Option, Some, None, codes, refl, sym, ap, ◌∙◌, append_assoc}
use Rattle.std.specs.List.{AllByRecursion}
use Rattle.std.specs.Str.{bytes_eq}
use Rattle.fir_base.proofs.Each.{all_left, all_right}
use Rattle.fir_base.proofs.SameNames.{name_other}
use Rattle.fir_base.specs.declared.direction.Direction.{Direction}
use Rattle.fir_base.specs.declared.direction.Direction.TheVariants.{Input, Output}
use Rattle.ver_words.specs.Names.{IsName}
use Rattle.ver_words.specs.Reserved.{is_reserved}
use Rattle.ver_ast.specs.declared.tree.Edge.{Edge}
use Rattle.ver_ast.specs.declared.tree.Item.{Item}
use Rattle.ver_ast.specs.declared.tree.Item.TheVariants as item
use Rattle.ver_ast.specs.declared.tree.Port.{Port}
use Rattle.ver_ast.specs.declared.tree.Write.{Write}
use Rattle.ver_ast.specs.AtomForms.{constant_number}
use Rattle.ver_ast.specs.Atoms.{AtomTree}
use Rattle.ver_ast.specs.Grammar.{direction_keyword, range_tokens, mark_tokens, port_tokens, next_port_tokens, ports_tokens, atom_tokens, rhs_tokens, write_tokens, item_tokens, edge_tokens, else_tokens}
use Rattle.ver_ast.specs.ItemNames.{rhs_arrays, write_names, edge_names}
use Rattle.ver_ast.specs.Names.{atom_names, rhs_names}
use Rattle.ver_ast.specs.Spells.{AreVerilogNames, HasItemNames}
use Rattle.ver_ast.specs.Tokens.{VToken, word, digit_zero, number, constant, sign, double}
use Rattle.ver_parse.specs.working.Symbols.{Symbol, a_token, a_name, a_constant, a_range, a_mark, a_direction, ports, more_ports, items, behind_register, behind_edge, a_block, writes, an_atom, a_side}
use Rattle.ver_parse.specs.working.Steps.{is_name, only_if, step, source, reset_value}
use Rattle.ver_parse.proofs.Passing.{reads, reads_alike, is_named, name_taken, name_reads}
use Rattle.ver_parse.proofs.AtomPasses.{atom_reads, side_reads}
use Rattle.ver_parse.proofs.Turns.{some_ports}

-- ---- ports

range_by : (width : ℕ) (n : List ℕ) (todo : List Symbol) (rest : List VToken) (b : Bool) → nat_eq width 1 ≡ b
    → reads (a_range ∷ todo) ((if b then [] else (sign 91 ∷ number (width - 1) ∷ sign 58 ∷ digit_zero ∷ sign 93 ∷ [])) ++ word n ∷ rest) ≡ reads todo (word n ∷ rest)
unfolding reads
range_by width n todo rest true e = refl
range_by width n todo rest false e = refl

-- a range or none, and a name
sized_name : (width : ℕ) (n : List ℕ) (todo : List Symbol) (rest : List VToken) → IsName n → reads (a_range ∷ a_name ∷ todo) (range_tokens width ++ word n ∷ rest) ≡ reads todo rest
sized_name width n todo rest h = range_by width n (a_name ∷ todo) rest (nat_eq width 1) refl ∙ name_reads n todo rest h

direction_reads : (d : Direction) (todo : List Symbol) (rest : List VToken) → reads (a_direction ∷ todo) (word (direction_keyword d) ∷ rest) ≡ reads todo rest
unfolding reads
direction_reads Input todo rest = refl
direction_reads Output todo rest = refl

mark_reads : (is_clock : Bool) (w : List ℕ) (todo : List Symbol) (rest : List VToken) → reads (a_mark ∷ todo) (mark_tokens is_clock ++ word w ∷ rest) ≡ reads todo (word w ∷ rest)
unfolding reads
mark_reads true w todo rest = refl
mark_reads false w todo rest = refl

port_regrouped : (mark range rest : List VToken) (d n : VToken) → (mark ++ d ∷ range ++ n ∷ []) ++ rest ≡ mark ++ (d ∷ range ++ n ∷ rest)
port_regrouped mark range rest d n = simp append_assoc

port_split : (p : Port) (rest : List VToken) → port_tokens p ++ rest ≡ mark_tokens p.is_clock ++ (word (direction_keyword p.direction) ∷ range_tokens p.width ++ word p.name ∷ rest)
port_split p rest = port_regrouped (mark_tokens p.is_clock) (range_tokens p.width) rest (word (direction_keyword p.direction)) (word p.name)

port_reads : (p : Port) (todo : List Symbol) (rest : List VToken) → IsName p.name → reads (a_mark ∷ a_direction ∷ a_range ∷ a_name ∷ todo) (port_tokens p ++ rest) ≡ reads todo rest
port_reads p todo rest h =
    let sized : List VToken = range_tokens p.width ++ word p.name ∷ rest in
    ap (λ l. reads (a_mark ∷ a_direction ∷ a_range ∷ a_name ∷ todo) l) (port_split p rest)
    ∙ mark_reads p.is_clock (direction_keyword p.direction) (a_direction ∷ a_range ∷ a_name ∷ todo) sized
    ∙ direction_reads p.direction (a_range ∷ a_name ∷ todo) sized
    ∙ sized_name p.width p.name todo rest h

comma_reads : (todo : List Symbol) (rest : List VToken) → reads (more_ports ∷ todo) (sign 44 ∷ rest) ≡ reads (a_mark ∷ a_direction ∷ a_range ∷ a_name ∷ more_ports ∷ todo) rest
unfolding reads
comma_reads todo rest = refl

last_port : (todo : List Symbol) (rest : List VToken) → reads (more_ports ∷ todo) (sign 41 ∷ rest) ≡ reads todo rest
unfolding reads
last_port todo rest = refl

no_ports : (todo : List Symbol) (rest : List VToken) → reads (ports ∷ todo) (sign 41 ∷ rest) ≡ reads todo rest
unfolding reads
no_ports todo rest = refl

more_ports_read : (ps : List Port) (todo : List Symbol) (rest : List VToken) → AllByRecursion (λ p. IsName p.name) ps → reads (more_ports ∷ todo) (flat_map next_port_tokens ps ++ sign 41 ∷ rest) ≡ reads todo rest
more_ports_read [] todo rest h = last_port todo rest
more_ports_read (p ∷ ps) todo rest h =
    let others : List VToken = flat_map next_port_tokens ps ++ sign 41 ∷ rest in
    ap (λ l. reads (more_ports ∷ todo) l) (append_assoc (next_port_tokens p) (flat_map next_port_tokens ps) (sign 41 ∷ rest))
    ∙ comma_reads todo (port_tokens p ++ others)
    ∙ port_reads p (more_ports ∷ todo) others h.0
    ∙ more_ports_read ps todo rest h.1

first_port_by : (is_clock : Bool) (w : List ℕ) (todo : List Symbol) (rest : List VToken)
    → reads (ports ∷ todo) (mark_tokens is_clock ++ word w ∷ rest) ≡ reads (a_mark ∷ a_direction ∷ a_range ∷ a_name ∷ more_ports ∷ todo) (mark_tokens is_clock ++ word w ∷ rest)
first_port_by true w todo rest = reads_alike (ports ∷ todo) (a_mark ∷ a_direction ∷ a_range ∷ a_name ∷ more_ports ∷ todo) (double 40 42) _ (some_ports (double 40 42) refl todo)
first_port_by false w todo rest = reads_alike (ports ∷ todo) (a_mark ∷ a_direction ∷ a_range ∷ a_name ∷ more_ports ∷ todo) (word w) rest (some_ports (word w) refl todo)

first_port : (p : Port) (todo : List Symbol) (rest : List VToken) → reads (ports ∷ todo) (port_tokens p ++ rest) ≡ reads (a_mark ∷ a_direction ∷ a_range ∷ a_name ∷ more_ports ∷ todo) (port_tokens p ++ rest)
first_port p todo rest =
    ap (λ l. reads (ports ∷ todo) l) (port_split p rest)
    ∙ first_port_by p.is_clock (direction_keyword p.direction) todo (range_tokens p.width ++ word p.name ∷ rest)
    ∙ ap (λ l. reads (a_mark ∷ a_direction ∷ a_range ∷ a_name ∷ more_ports ∷ todo) l) (sym (port_split p rest))

pub ports_read : (ps : List Port) (todo : List Symbol) (rest : List VToken) → AllByRecursion (λ p. IsName p.name) ps → reads (ports ∷ todo) (ports_tokens ps ++ sign 41 ∷ rest) ≡ reads todo rest
ports_read [] todo rest h = no_ports todo rest
ports_read (p ∷ ps) todo rest h =
    let others : List VToken = flat_map next_port_tokens ps ++ sign 41 ∷ rest in
    ap (λ l. reads (ports ∷ todo) l) (append_assoc (port_tokens p) (flat_map next_port_tokens ps) (sign 41 ∷ rest))
    ∙ first_port p todo others
    ∙ port_reads p (more_ports ∷ todo) others h.0
    ∙ more_ports_read ps todo rest h.1

-- ---- blocks

arrow_reads : (todo : List Symbol) (rest : List VToken) → reads (source todo) (double 60 61 ∷ rest) ≡ reads (an_atom ∷ a_token (sign 59) ∷ todo) rest
unfolding reads
arrow_reads todo rest = refl

semicolon_reads : (todo : List Symbol) (rest : List VToken) → reads (a_token (sign 59) ∷ todo) (sign 59 ∷ rest) ≡ reads todo rest
unfolding reads
semicolon_reads todo rest = refl

-- `<= atom ;`
source_reads : (a : AtomTree) (todo : List Symbol) (rest : List VToken) → AreVerilogNames (atom_names a) → reads (source todo) (double 60 61 ∷ (atom_tokens a ++ sign 59 ∷ []) ++ rest) ≡ reads todo rest
source_reads a todo rest h =
    arrow_reads todo ((atom_tokens a ++ sign 59 ∷ []) ++ rest)
    ∙ ap (λ l. reads (an_atom ∷ a_token (sign 59) ∷ todo) l) (append_assoc (atom_tokens a) (sign 59 ∷ []) rest)
    ∙ atom_reads a (a_token (sign 59) ∷ todo) (sign 59 ∷ rest) h refl
    ∙ semicolon_reads todo rest

round_reads : (todo : List Symbol) (rest : List VToken) → reads (a_token (sign 40) ∷ todo) (sign 40 ∷ rest) ≡ reads todo rest
unfolding reads
round_reads todo rest = refl

closed_reads : (todo : List Symbol) (rest : List VToken) → reads (a_token (sign 41) ∷ todo) (sign 41 ∷ rest) ≡ reads todo rest
unfolding reads
closed_reads todo rest = refl

value_reads : (todo : List Symbol) (w x : ℕ) (rest : List VToken) → reads (a_token (double 60 61) ∷ a_constant ∷ a_token (sign 59) ∷ todo) (double 60 61 ∷ constant w x ∷ sign 59 ∷ rest) ≡ reads todo rest
unfolding reads
value_reads todo w x rest = refl

-- `( name ) name <= constant ;`
reset_reads : (tested target : List ℕ) (w x : ℕ) (todo : List Symbol) (rest : List VToken) → IsName tested → IsName target
    → reads (reset_value todo) (sign 40 ∷ word tested ∷ sign 41 ∷ word target ∷ double 60 61 ∷ constant w x ∷ sign 59 ∷ rest) ≡ reads todo rest
reset_reads tested target w x todo rest h k =
    let value : List VToken = double 60 61 ∷ constant w x ∷ sign 59 ∷ rest in
    let behind_target : List Symbol = a_token (double 60 61) ∷ a_constant ∷ a_token (sign 59) ∷ todo in
    round_reads (a_name ∷ a_token (sign 41) ∷ a_name ∷ behind_target) (word tested ∷ sign 41 ∷ word target ∷ value)
    ∙ name_reads tested (a_token (sign 41) ∷ a_name ∷ behind_target) (sign 41 ∷ word target ∷ value) h
    ∙ closed_reads (a_name ∷ behind_target) (word target ∷ value)
    ∙ name_reads target behind_target value k
    ∙ value_reads todo w x rest

condition_begins : (todo : List Symbol) (rest : List VToken)
    → reads (writes ∷ todo) (word (codes "if") ∷ sign 40 ∷ rest) ≡ reads (an_atom ∷ a_token (sign 41) ∷ a_name ∷ a_token (sign 91) ∷ an_atom ∷ a_token (sign 93) ∷ source (writes ∷ todo)) rest
unfolding reads
condition_begins todo rest = refl

index_begins : (todo : List Symbol) (rest : List VToken) → reads (a_token (sign 91) ∷ todo) (sign 91 ∷ rest) ≡ reads todo rest
unfolding reads
index_begins todo rest = refl

index_ends : (todo : List Symbol) (rest : List VToken) → reads (a_token (sign 93) ∷ todo) (sign 93 ∷ rest) ≡ reads todo rest
unfolding reads
index_ends todo rest = refl

write_regrouped : (c i a rest : List VToken) (t u v w x y z : VToken)
    → (t ∷ u ∷ c ++ v ∷ w ∷ x ∷ i ++ y ∷ z ∷ a ++ sign 59 ∷ []) ++ rest ≡ t ∷ u ∷ c ++ (v ∷ w ∷ x ∷ i ++ (y ∷ z ∷ ((a ++ sign 59 ∷ []) ++ rest)))
write_regrouped c i a rest t u v w x y z = simp append_assoc

write_reads : (w : Write) (todo : List Symbol) (rest : List VToken) → AreVerilogNames (write_names w) → reads (writes ∷ todo) (write_tokens w ++ rest) ≡ reads (writes ∷ todo) rest
write_reads w todo rest h =
    let operands : AreVerilogNames (atom_names w.condition ++ atom_names w.index) = all_left IsName (atom_names w.condition ++ atom_names w.index) (atom_names w.source) h.1 in
    let end : List VToken = double 60 61 ∷ (atom_tokens w.source ++ sign 59 ∷ []) ++ rest in
    let behind_index : List Symbol = a_token (sign 93) ∷ source (writes ∷ todo) in
    ap (λ l. reads (writes ∷ todo) l)
    (write_regrouped (atom_tokens w.condition) (atom_tokens w.index) (atom_tokens w.source) rest (word (codes "if")) (sign 40) (sign 41) (word w.array) (sign 91) (sign 93) (double 60 61))
    ∙ condition_begins todo (atom_tokens w.condition ++ (sign 41 ∷ word w.array ∷ sign 91 ∷ atom_tokens w.index ++ (sign 93 ∷ end)))
    ∙ atom_reads w.condition (a_token (sign 41) ∷ a_name ∷ a_token (sign 91) ∷ an_atom ∷ behind_index) (sign 41 ∷ word w.array ∷ sign 91 ∷ atom_tokens w.index ++ (sign 93 ∷ end)) (all_left IsName (atom_names w.condition) (atom_names w.index) operands) refl
    ∙ closed_reads (a_name ∷ a_token (sign 91) ∷ an_atom ∷ behind_index) (word w.array ∷ sign 91 ∷ atom_tokens w.index ++ (sign 93 ∷ end))
    ∙ name_reads w.array (a_token (sign 91) ∷ an_atom ∷ behind_index) (sign 91 ∷ atom_tokens w.index ++ (sign 93 ∷ end)) h.0
    ∙ index_begins (an_atom ∷ behind_index) (atom_tokens w.index ++ (sign 93 ∷ end))
    ∙ atom_reads w.index behind_index (sign 93 ∷ end) (all_right IsName (atom_names w.condition) (atom_names w.index) operands) refl
    ∙ index_ends (source (writes ∷ todo)) end
    ∙ source_reads w.source (writes ∷ todo) rest (all_right IsName (atom_names w.condition ++ atom_names w.index) (atom_names w.source) h.1)

writes_end : (todo : List Symbol) (rest : List VToken) → reads (writes ∷ todo) (word (codes "end") ∷ rest) ≡ reads todo rest
unfolding reads
writes_end todo rest = refl

writes_read : (ws : List Write) (todo : List Symbol) (rest : List VToken) → AreVerilogNames (flat_map write_names ws) → reads (writes ∷ todo) (flat_map write_tokens ws ++ word (codes "end") ∷ rest) ≡ reads todo rest
writes_read [] todo rest h = writes_end todo rest
writes_read (w ∷ ws) todo rest h =
    ap (λ l. reads (writes ∷ todo) l) (append_assoc (write_tokens w) (flat_map write_tokens ws) (word (codes "end") ∷ rest))
    ∙ write_reads w todo (flat_map write_tokens ws ++ word (codes "end") ∷ rest) (all_left IsName (write_names w) (flat_map write_names ws) h)
    ∙ writes_read ws todo rest (all_right IsName (write_names w) (flat_map write_names ws) h)

-- ---- items

wire_begins : (todo : List Symbol) (rest : List VToken) → reads (items ∷ todo) (word (codes "wire") ∷ rest) ≡ reads (a_range ∷ a_name ∷ a_token (sign 59) ∷ items ∷ todo) rest
unfolding reads
wire_begins todo rest = refl

register_begins : (todo : List Symbol) (rest : List VToken) → reads (items ∷ todo) (word (codes "reg") ∷ rest) ≡ reads (a_range ∷ a_name ∷ behind_register ∷ items ∷ todo) rest
unfolding reads
register_begins todo rest = refl

register_ends : (todo : List Symbol) (rest : List VToken) → reads (behind_register ∷ todo) (sign 59 ∷ rest) ≡ reads todo rest
unfolding reads
register_ends todo rest = refl

array_ends : (todo : List Symbol) (last : ℕ) (rest : List VToken) → reads (behind_register ∷ todo) (sign 91 ∷ digit_zero ∷ sign 58 ∷ number last ∷ sign 93 ∷ sign 59 ∷ rest) ≡ reads todo rest
unfolding reads
array_ends todo last rest = refl

assign_begins : (todo : List Symbol) (rest : List VToken) → reads (items ∷ todo) (word (codes "assign") ∷ rest) ≡ reads (a_name ∷ a_token (sign 61) ∷ a_side ∷ a_token (sign 59) ∷ items ∷ todo) rest
unfolding reads
assign_begins todo rest = refl

equals_reads : (todo : List Symbol) (rest : List VToken) → reads (a_token (sign 61) ∷ todo) (sign 61 ∷ rest) ≡ reads todo rest
unfolding reads
equals_reads todo rest = refl

always_begins : (todo : List Symbol) (rest : List VToken) → reads (items ∷ todo) (word (codes "always") ∷ sign 64 ∷ sign 40 ∷ word (codes "posedge") ∷ rest) ≡ reads (a_name ∷ behind_edge ∷ items ∷ todo) rest
unfolding reads
always_begins todo rest = refl

block_begins : (todo : List Symbol) (rest : List VToken) → reads (behind_edge ∷ todo) (sign 41 ∷ rest) ≡ reads (a_block ∷ todo) rest
unfolding reads
block_begins todo rest = refl

if_reads : (todo : List Symbol) (rest : List VToken) → reads (a_block ∷ todo) (word (codes "if") ∷ rest) ≡ reads (reset_value todo) rest
unfolding reads
if_reads todo rest = refl

begin_reads : (todo : List Symbol) (rest : List VToken) → reads (a_block ∷ todo) (word (codes "begin") ∷ rest) ≡ reads (writes ∷ todo) rest
unfolding reads
begin_reads todo rest = refl

second_edge : (todo : List Symbol) (rest : List VToken)
    → reads (behind_edge ∷ todo) (word (codes "or") ∷ word (codes "posedge") ∷ rest) ≡ reads (a_name ∷ a_token (sign 41) ∷ a_token (word (codes "if")) ∷ reset_value (a_token (word (codes "else")) ∷ a_name ∷ source todo)) rest
unfolding reads
second_edge todo rest = refl

then_reads : (todo : List Symbol) (rest : List VToken) → reads (a_token (sign 41) ∷ a_token (word (codes "if")) ∷ todo) (sign 41 ∷ word (codes "if") ∷ rest) ≡ reads todo rest
unfolding reads
then_reads todo rest = refl

else_reads : (todo : List Symbol) (rest : List VToken) → reads (a_token (word (codes "else")) ∷ todo) (word (codes "else") ∷ rest) ≡ reads todo rest
unfolding reads
else_reads todo rest = refl

-- no name is a reserved word
if_is_no_name : is_name (codes "if") ≡ false
unfolding is_reserved
if_is_no_name = refl

begin_is_no_name : is_name (codes "begin") ≡ false
unfolding is_reserved
begin_is_no_name = refl

other_word : (w k : List ℕ) → IsName w → is_name k ≡ false → bytes_eq w k ≡ false
other_word w k h e = name_other w k (λ same. let both : true ≡ false = sym (is_named w h) ∙ ap is_name same ∙ e in absurd (cc))

block_by : (w : List ℕ) (a b : Bool) → bytes_eq w (codes "if") ≡ a → bytes_eq w (codes "begin") ≡ b → a ≡ false → b ≡ false → step a_block (word w) ≡ only_if (is_name w) (source [])
block_by w a b e i h k = rw (e, i, h, k) refl

name_begins_block : (w : List ℕ) → IsName w → step a_block (word w) ≡ only_if (is_name w) (source [])
name_begins_block w h = block_by w (bytes_eq w (codes "if")) (bytes_eq w (codes "begin")) refl refl (other_word w (codes "if") h if_is_no_name) (other_word w (codes "begin") h begin_is_no_name)

store_reads : (n : List ℕ) (a : AtomTree) (todo : List Symbol) (rest : List VToken) → IsName n → AreVerilogNames (atom_names a)
    → reads (a_block ∷ todo) (word n ∷ double 60 61 ∷ (atom_tokens a ++ sign 59 ∷ []) ++ rest) ≡ reads todo rest
store_reads n a todo rest h k = name_taken a_block (source []) n todo (double 60 61 ∷ (atom_tokens a ++ sign 59 ∷ []) ++ rest) h (name_begins_block n h) ∙ source_reads a todo rest k

edge_reads : (clock : List ℕ) (todo : List Symbol) (rest : List VToken) → IsName clock
    → reads (items ∷ todo) (word (codes "always") ∷ sign 64 ∷ sign 40 ∷ word (codes "posedge") ∷ word clock ∷ rest) ≡ reads (behind_edge ∷ items ∷ todo) rest
edge_reads clock todo rest h = always_begins todo (word clock ∷ rest) ∙ name_reads clock (behind_edge ∷ items ∷ todo) rest h

resetting_reads : (reset tested target : List ℕ) (w x : ℕ) (e : Option Edge) (todo : List Symbol) (rest : List VToken) → AreVerilogNames (reset ∷ tested ∷ target ∷ edge_names e)
    → reads (items ∷ todo)
    ((word (codes "always") ∷ sign 64 ∷ sign 40 ∷ edge_tokens e ++ word (codes "posedge") ∷ word reset ∷ sign 41 ∷ word (codes "if") ∷ sign 40 ∷ word tested ∷ sign 41 ∷ word target ∷ double 60 61 ∷ constant w x ∷ sign 59
    ∷ else_tokens e) ++ rest)
    ≡ reads (items ∷ todo) rest
resetting_reads reset tested target w x None todo rest h =
    let value : List VToken = sign 40 ∷ word tested ∷ sign 41 ∷ word target ∷ double 60 61 ∷ constant w x ∷ sign 59 ∷ rest in
    edge_reads reset todo (sign 41 ∷ word (codes "if") ∷ value) h.0
    ∙ block_begins (items ∷ todo) (word (codes "if") ∷ value)
    ∙ if_reads (items ∷ todo) value
    ∙ reset_reads tested target w x (items ∷ todo) rest h.1.0 h.1.1.0
resetting_reads reset tested target w x (Some e) todo rest h =
    let end : List VToken = double 60 61 ∷ (atom_tokens e.source ++ sign 59 ∷ []) ++ rest in
    let otherwise : List VToken = word (codes "else") ∷ word e.target ∷ end in
    let value : List VToken = sign 40 ∷ word tested ∷ sign 41 ∷ word target ∷ double 60 61 ∷ constant w x ∷ sign 59 ∷ otherwise in
    let behind_value : List Symbol = a_token (word (codes "else")) ∷ a_name ∷ source (items ∷ todo) in
    edge_reads e.clock todo (word (codes "or") ∷ word (codes "posedge") ∷ word reset ∷ sign 41 ∷ word (codes "if") ∷ value) h.1.1.1.0
    ∙ second_edge (items ∷ todo) (word reset ∷ sign 41 ∷ word (codes "if") ∷ value)
    ∙ name_reads reset (a_token (sign 41) ∷ a_token (word (codes "if")) ∷ reset_value behind_value) (sign 41 ∷ word (codes "if") ∷ value) h.0
    ∙ then_reads (reset_value behind_value) value
    ∙ reset_reads tested target w x behind_value otherwise h.1.0 h.1.1.0
    ∙ else_reads (a_name ∷ source (items ∷ todo)) (word e.target ∷ end)
    ∙ name_reads e.target (source (items ∷ todo)) end h.1.1.1.1.0
    ∙ source_reads e.source (items ∷ todo) rest h.1.1.1.1.1

item_reads : (i : Item) (todo : List Symbol) (rest : List VToken) → HasItemNames i → reads (items ∷ todo) (item_tokens i ++ rest) ≡ reads (items ∷ todo) rest
item_reads (item.Wire n) todo rest h =
    wire_begins todo ((range_tokens n.width ++ word n.name ∷ sign 59 ∷ []) ++ rest)
    ∙ ap (λ l. reads (a_range ∷ a_name ∷ a_token (sign 59) ∷ items ∷ todo) l) (append_assoc (range_tokens n.width) (word n.name ∷ sign 59 ∷ []) rest)
    ∙ sized_name n.width n.name (a_token (sign 59) ∷ items ∷ todo) (sign 59 ∷ rest) h.0.0
    ∙ semicolon_reads (items ∷ todo) rest
item_reads (item.Reg n) todo rest h =
    register_begins todo ((range_tokens n.width ++ word n.name ∷ sign 59 ∷ []) ++ rest)
    ∙ ap (λ l. reads (a_range ∷ a_name ∷ behind_register ∷ items ∷ todo) l) (append_assoc (range_tokens n.width) (word n.name ∷ sign 59 ∷ []) rest)
    ∙ sized_name n.width n.name (behind_register ∷ items ∷ todo) (sign 59 ∷ rest) h.0.0
    ∙ register_ends (items ∷ todo) rest
item_reads (item.Array a) todo rest h =
    let end : List VToken = sign 91 ∷ digit_zero ∷ sign 58 ∷ number a.last ∷ sign 93 ∷ sign 59 ∷ [] in
    register_begins todo ((range_tokens a.width ++ word a.name ∷ end) ++ rest)
    ∙ ap (λ l. reads (a_range ∷ a_name ∷ behind_register ∷ items ∷ todo) l) (append_assoc (range_tokens a.width) (word a.name ∷ end) rest)
    ∙ sized_name a.width a.name (behind_register ∷ items ∷ todo) (end ++ rest) h.0.0
    ∙ array_ends (items ∷ todo) a.last rest
item_reads (item.Assign a) todo rest h =
    assign_begins todo (word a.target ∷ sign 61 ∷ (rhs_tokens a.rhs ++ sign 59 ∷ []) ++ rest)
    ∙ name_reads a.target (a_token (sign 61) ∷ a_side ∷ a_token (sign 59) ∷ items ∷ todo) (sign 61 ∷ (rhs_tokens a.rhs ++ sign 59 ∷ []) ++ rest) h.1.0
    ∙ equals_reads (a_side ∷ a_token (sign 59) ∷ items ∷ todo) ((rhs_tokens a.rhs ++ sign 59 ∷ []) ++ rest)
    ∙ ap (λ l. reads (a_side ∷ a_token (sign 59) ∷ items ∷ todo) l) (append_assoc (rhs_tokens a.rhs) (sign 59 ∷ []) rest)
    ∙ side_reads a.rhs (a_token (sign 59) ∷ items ∷ todo) rest h.1.1
    ∙ semicolon_reads (items ∷ todo) rest
item_reads (item.Always b) todo rest h =
    let stored : List VToken = word b.target ∷ double 60 61 ∷ (atom_tokens b.source ++ sign 59 ∷ []) ++ rest in
    edge_reads b.clock todo (sign 41 ∷ stored) h.1.0 ∙ block_begins (items ∷ todo) stored ∙ store_reads b.target b.source (items ∷ todo) rest h.1.1.0 h.1.1.1
item_reads (item.Resetting b) todo rest h = resetting_reads b.reset b.tested b.target b.value.width (constant_number b.value) b.edge todo rest h.1
item_reads (item.Writing b) todo rest h =
    let written : List VToken = (flat_map write_tokens b.writes ++ word (codes "end") ∷ []) ++ rest in
    edge_reads b.clock todo (sign 41 ∷ word (codes "begin") ∷ written) h.1.0
    ∙ block_begins (items ∷ todo) (word (codes "begin") ∷ written)
    ∙ begin_reads (items ∷ todo) written
    ∙ ap (λ l. reads (writes ∷ items ∷ todo) l) (append_assoc (flat_map write_tokens b.writes) (word (codes "end") ∷ []) rest)
    ∙ writes_read b.writes (items ∷ todo) rest h.1.1

items_end : (todo : List Symbol) (rest : List VToken) → reads (items ∷ todo) (word (codes "endmodule") ∷ rest) ≡ reads todo rest
unfolding reads
items_end todo rest = refl

pub items_read : (is : List Item) (todo : List Symbol) (rest : List VToken) → AllByRecursion HasItemNames is → reads (items ∷ todo) (flat_map item_tokens is ++ word (codes "endmodule") ∷ rest) ≡ reads todo rest
items_read [] todo rest h = items_end todo rest
items_read (i ∷ is) todo rest h =
    ap (λ l. reads (items ∷ todo) l) (append_assoc (item_tokens i) (flat_map item_tokens is) (word (codes "endmodule") ∷ rest))
    ∙ item_reads i todo (flat_map item_tokens is ++ word (codes "endmodule") ∷ rest) h.0
    ∙ items_read is todo rest h.1
