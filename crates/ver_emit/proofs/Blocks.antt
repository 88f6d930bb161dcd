-- Always blocks, as text and as tokens.
-- A parenthesis opens the edges and the condition, and no star stands behind it.
use Rattle.std.proofs.Common.{◌≡◌, ℕ, List, [], ◌∷◌, ◌++◌, Some, refl, sym, append_assoc}
use Rattle.std.specs.Prelude.{codes, flat_map, Option, None}
use Rattle.std.specs.List.{AllByRecursion}
use Rattle.fir_base.proofs.Each.{all_left, all_right}
use Rattle.ver_words.specs.Names.{IsName}
use Rattle.ver_ast.specs.declared.tree.Verilog.{Verilog}
use Rattle.ver_ast.specs.declared.tree.Item.TheVariants as item
use Rattle.ver_ast.specs.declared.tree.Always.{Always}
use Rattle.ver_ast.specs.declared.tree.Edge.{Edge}
use Rattle.ver_ast.specs.declared.tree.Resetting.{Resetting}
use Rattle.ver_ast.specs.declared.tree.Write.{Write}
use Rattle.ver_ast.specs.declared.tree.Writing.{Writing}
use Rattle.ver_ast.specs.AtomForms.{constant_number}
use Rattle.ver_ast.specs.Atoms.{AtomTree, constant}
use Rattle.ver_ast.specs.Names.{atom_names}
use Rattle.ver_ast.specs.ItemNames.{edge_names, write_names}
use Rattle.ver_ast.specs.Spells.{AreVerilogNames, HasItemNames}
use Rattle.ver_ast.specs.SoundSides.{IsOperand}
use Rattle.ver_ast.specs.Nets.{nets}
use Rattle.ver_ast.specs.Valid.{IsPlain, IsEdge, IsResetting, IsWrite, AreWrites}
use Rattle.ver_ast.specs.Tokens as token
use Rattle.ver_ast.specs.Tokens.{VToken, word, sign, double}
use Rattle.ver_ast.specs.Grammar.{atom_tokens, edge_tokens, else_tokens, write_tokens, item_tokens}
use Rattle.ver_emit.specs.Layout.{atom_text, edge_text, else_text, write_text, item_text}
use Rattle.ver_emit.proofs.Grouping.{thirteen_joined}
use Rattle.ver_emit.proofs.ReadText.{Reads, moved}
use Rattle.ver_emit.proofs.Fixed.{fixed_spelled}
use Rattle.ver_emit.proofs.Words.{Closes, OpensNoMark, word_opens_no_mark, word_spelled, parenthesis_spelled}
use Rattle.ver_emit.proofs.Narrow.{AllNarrow}
use Rattle.ver_emit.proofs.Operands.{IsSpelled, operand_spelled}

-- a write of an operand to a register
write_to_spelled : (n : List ℕ) (a : AtomTree) (rest : List ℕ) (ts : List VToken) → IsName n → IsSpelled a → Reads rest ts
    → Reads (n ++ (codes " <= " ++ (atom_text a ++ (codes ";" ++ rest)))) (word n ∷ double 60 61 ∷ (atom_tokens a ++ sign 59 ∷ ts))
write_to_spelled n a rest ts named spelled e =
    let source = spelled.before _ _ refl (fixed_spelled (codes ";") rest _ ts refl refl e) in
    word_spelled n _ _ named.spelled refl (fixed_spelled (codes " <= ") _ _ _ refl refl source)

-- the edges of a block with an asynchronous reset
edge_spelled : (o : Option Edge) (rest : List ℕ) (ts : List VToken) → AreVerilogNames (edge_names o) → Reads rest ts
    → Reads (edge_text o ++ rest) (edge_tokens o ++ ts)
edge_spelled None rest ts named e = e
edge_spelled (Some o) rest ts named e =
    let clock = word_spelled o.clock _ _ named.0.spelled refl (fixed_spelled (codes " or ") rest _ ts refl refl e) in
    let grouped : edge_text (Some o) ++ rest ≡ codes "posedge " ++ (o.clock ++ (codes " or " ++ rest)) = simp append_assoc in
    moved _ _ _ _ grouped (fixed_spelled (codes "posedge ") _ _ _ refl refl clock) refl

edge_opens_no_mark : (o : Option Edge) (rest : List ℕ) → OpensNoMark (edge_text o ++ (codes "posedge " ++ rest))
edge_opens_no_mark None rest = refl
edge_opens_no_mark (Some o) rest = refl

module _ (v : Verilog) (narrow : AllNarrow (nets v)) where
  -- the line of a block of a register
  pub always_spelled : (b : Always) (rest : List ℕ) (ts : List VToken) → IsPlain v b → HasItemNames (item.Always b) → Reads rest ts
      → Reads (item_text (item.Always b) ++ rest) (item_tokens (item.Always b) ++ ts)
  always_spelled b rest ts sound named e =
      let names = named.1 in
      let source = operand_spelled (nets v) b.source narrow sound.wide.operand names.1.1 in
      let written = write_to_spelled b.target b.source _ _ names.1.0 source (fixed_spelled (codes "\n") rest _ ts refl refl e) in
      let clock = word_spelled b.clock _ _ names.0.spelled refl (fixed_spelled (codes ") ") _ _ _ refl refl written) in
      let grouped : item_text (item.Always b) ++ rest
      ≡ codes "  always @(posedge " ++ (b.clock ++ (codes ") " ++ (b.target ++ (codes " <= " ++ (atom_text b.source ++ (codes ";" ++ (codes "\n" ++ rest))))))) =
      simp append_assoc in
      let same : word (codes "always") ∷ sign 64 ∷ sign 40 ∷ word (codes "posedge") ∷ word b.clock ∷ sign 41 ∷ word b.target ∷ double 60 61
      ∷ (atom_tokens b.source ++ sign 59 ∷ ts) ≡ item_tokens (item.Always b) ++ ts = simp append_assoc in
      moved _ _ _ _ grouped (fixed_spelled (codes "  always @(posedge ") _ _ _ refl refl clock) same

  else_spelled : (n : List ℕ) (w : ℕ) (o : Option Edge) (rest : List ℕ) (ts : List VToken) → IsEdge v n w o → AreVerilogNames (edge_names o)
      → Reads rest ts → Reads (else_text o ++ rest) (else_tokens o ++ ts)
  else_spelled n w None rest ts sound named e = e
  else_spelled n w (Some o) rest ts sound named e =
      let source = operand_spelled (nets v) o.source narrow sound.2.operand named.1.1 in
      let written = write_to_spelled o.target o.source rest ts named.1.0 source e in
      let grouped : else_text (Some o) ++ rest ≡ codes " else " ++ (o.target ++ (codes " <= " ++ (atom_text o.source ++ (codes ";" ++ rest)))) =
      simp append_assoc in
      let same : word (codes "else") ∷ word o.target ∷ double 60 61 ∷ (atom_tokens o.source ++ sign 59 ∷ ts) ≡ else_tokens (Some o) ++ ts = simp append_assoc in
      moved _ _ _ _ grouped (fixed_spelled (codes " else ") _ _ _ refl refl written) same

  -- the line of a block with an asynchronous reset
  pub resetting_spelled : (b : Resetting) (rest : List ℕ) (ts : List VToken) → IsSpelled (constant b.value.width (constant_number b.value)) → IsResetting v b
      → HasItemNames (item.Resetting b) → Reads rest ts → Reads (item_text (item.Resetting b) ++ rest) (item_tokens (item.Resetting b) ++ ts)
  resetting_spelled b rest ts value sound named e =
      let names = named.1 in
      let constant_of_b = constant b.value.width (constant_number b.value) in
      let others = else_spelled b.target b.value.width b.edge _ _ sound.clocked names.1.1.1 (fixed_spelled (codes "\n") rest [] ts refl refl e) in
      let written = write_to_spelled b.target constant_of_b _ _ names.1.1.0 value others in
      let condition = word_spelled b.tested _ _ names.1.0.spelled refl (fixed_spelled (codes ") ") _ _ _ refl refl written) in
      let opened = parenthesis_spelled _ _ (word_opens_no_mark b.tested _ names.1.0.spelled) condition in
      let edge_of_reset = word_spelled b.reset _ _ names.0.spelled refl (fixed_spelled (codes ") if ") _ _ _ refl refl opened) in
      let edges = edge_spelled b.edge _ _ names.1.1.1 (fixed_spelled (codes "posedge ") _ _ _ refl refl edge_of_reset) in
      let list = parenthesis_spelled _ _ (edge_opens_no_mark b.edge _) edges in
      let grouped =
      thirteen_joined (codes "  always @(") (edge_text b.edge) (codes "posedge ") b.reset (codes ") if (") b.tested (codes ") ") b.target (codes " <= ")
      (atom_text constant_of_b) (codes ";") (else_text b.edge) (codes "\n") rest in
      let same : word (codes "always") ∷ sign 64 ∷ sign 40 ∷ (edge_tokens b.edge ++ word (codes "posedge") ∷ word b.reset ∷ sign 41 ∷ word (codes "if") ∷ sign 40
      ∷ word b.tested ∷ sign 41 ∷ word b.target ∷ double 60 61 ∷ token.constant b.value.width (constant_number b.value) ∷ sign 59 ∷ (else_tokens b.edge ++ ts))
      ≡ item_tokens (item.Resetting b) ++ ts = simp append_assoc in
      moved _ _ _ _ grouped (fixed_spelled (codes "  always @") _ _ _ refl refl list) same

  write_spelled : (n : List ℕ) (w : Write) (rest : List ℕ) (ts : List VToken) → IsWrite v n w → AreVerilogNames (write_names w) → Reads rest ts
      → Reads (write_text w ++ rest) (write_tokens w ++ ts)
  write_spelled n w rest ts sound named e =
      let spelled = λ (a : AtomTree) (h : IsOperand (nets v) a) (k : AreVerilogNames (atom_names a)). operand_spelled (nets v) a narrow h k in
      let front : AreVerilogNames (atom_names w.condition ++ atom_names w.index) = all_left IsName (atom_names w.condition ++ atom_names w.index) (atom_names w.source) named.1 in
      let condition = spelled w.condition sound.condition_wide.operand (all_left IsName (atom_names w.condition) (atom_names w.index) front) in
      let index = spelled w.index sound.index_sound (all_right IsName (atom_names w.condition) (atom_names w.index) front) in
      let source = spelled w.source sound.source_wide.operand (all_right IsName (atom_names w.condition ++ atom_names w.index) (atom_names w.source) named.1) in
      let written = source.before _ _ refl (fixed_spelled (codes ";") rest _ ts refl refl e) in
      let placed = index.before _ _ refl (fixed_spelled (codes "] <= ") _ _ _ refl refl written) in
      let array = word_spelled w.array _ _ named.0.spelled refl (fixed_spelled (codes "[") _ _ _ refl refl placed) in
      let tested = condition.before _ _ refl (fixed_spelled (codes ") ") _ _ _ refl refl array) in
      let opened = parenthesis_spelled _ _ (condition.no_mark _) tested in
      let grouped : write_text w ++ rest
      ≡ codes " if " ++ (40 ∷ (atom_text w.condition ++ (codes ") " ++ (w.array ++ (codes "[" ++ (atom_text w.index ++ (codes "] <= " ++ (atom_text w.source
      ++ (codes ";" ++ rest))))))))) =
      simp append_assoc in
      let same : word (codes "if") ∷ sign 40 ∷ (atom_tokens w.condition ++ (sign 41 ∷ word w.array ∷ sign 91 ∷ (atom_tokens w.index ++ (sign 93 ∷ double 60 61
      ∷ (atom_tokens w.source ++ sign 59 ∷ ts))))) ≡ write_tokens w ++ ts = simp append_assoc in
      moved _ _ _ _ grouped (fixed_spelled (codes " if ") _ _ _ refl refl opened) same

  writes_spelled : (n : List ℕ) (ws : List Write) (rest : List ℕ) (ts : List VToken) → AllByRecursion (IsWrite v n) ws
      → AreVerilogNames (flat_map write_names ws) → Reads rest ts → Reads (flat_map write_text ws ++ rest) (flat_map write_tokens ws ++ ts)
  writes_spelled n [] rest ts sound named e = e
  writes_spelled n (w ∷ ws) rest ts sound named e =
      let others = writes_spelled n ws rest ts sound.1 (all_right IsName (write_names w) (flat_map write_names ws) named) e in
      let first = write_spelled n w _ _ sound.0 (all_left IsName (write_names w) (flat_map write_names ws) named) others in
      moved _ _ _ _ (append_assoc (write_text w) (flat_map write_text ws) rest) first (sym (append_assoc (write_tokens w) (flat_map write_tokens ws) ts))

  are_writes : (ws : List Write) → AreWrites v ws → (n : List ℕ) × AllByRecursion (IsWrite v n) ws
  are_writes [] sound = ([], tt)
  are_writes (w ∷ ws) sound = (w.array, sound)

  -- a space stands before each write, and before the end
  closed_by_writes : (ws : List Write) (rest : List ℕ) → Closes (flat_map write_text ws ++ (codes " end\n" ++ rest))
  closed_by_writes [] rest = refl
  closed_by_writes (w ∷ ws) rest = refl

  -- the line of a block of an array
  pub writing_spelled : (b : Writing) (rest : List ℕ) (ts : List VToken) → AreWrites v b.writes → HasItemNames (item.Writing b) → Reads rest ts
      → Reads (item_text (item.Writing b) ++ rest) (item_tokens (item.Writing b) ++ ts)
  writing_spelled b rest ts sound named e =
      let names = named.1 in
      let all = are_writes b.writes sound in
      let writes = writes_spelled all.0 b.writes _ _ all.1 names.1 (fixed_spelled (codes " end\n") rest _ ts refl refl e) in
      let begun = word_spelled (codes "begin") _ _ refl (closed_by_writes b.writes rest) writes in
      let clock = word_spelled b.clock _ _ names.0.spelled refl (fixed_spelled (codes ") ") _ _ _ refl refl begun) in
      let grouped : item_text (item.Writing b) ++ rest
      ≡ codes "  always @(posedge " ++ (b.clock ++ (codes ") " ++ (codes "begin" ++ (flat_map write_text b.writes ++ (codes " end\n" ++ rest))))) =
      simp append_assoc in
      let same : word (codes "always") ∷ sign 64 ∷ sign 40 ∷ word (codes "posedge") ∷ word b.clock ∷ sign 41 ∷ word (codes "begin")
      ∷ (flat_map write_tokens b.writes ++ word (codes "end") ∷ ts) ≡ item_tokens (item.Writing b) ++ ts = simp append_assoc in
      moved _ _ _ _ grouped (fixed_spelled (codes "  always @(posedge ") _ _ _ refl refl clock) same
