-- The ports of a module, as text and as tokens.
-- A comma or the end of the line closes a port.
use Rattle.std.proofs.Common.{◌≡◌, ℕ, List, [], ◌∷◌, ◌++◌, Some, refl, sym, append_assoc}
use Rattle.std.specs.Prelude.{◌≤◌, Bool, true, false, codes, flat_map}
use Rattle.std.specs.List.{AllByRecursion}
use Rattle.fir_base.specs.declared.direction.Direction.{Direction}
use Rattle.fir_base.specs.declared.direction.Direction.TheVariants.{Input, Output}
use Rattle.ver_ast.specs.declared.tree.Port.{Port}
use Rattle.ver_words.specs.Names.{IsName}
use Rattle.ver_ast.specs.Tokens.{VToken, word, sign}
use Rattle.ver_ast.specs.working.TokenSteps.{between}
use Rattle.ver_ast.specs.Grammar.{direction_keyword, range_tokens, mark_tokens, port_tokens, next_port_tokens, ports_tokens}
use Rattle.ver_emit.specs.Layout.{range_text, mark_text, port_text, next_port_text, ports_text}
use Rattle.ver_emit.proofs.Grouping.{three_joined, six_joined}
use Rattle.ver_emit.proofs.ReadText.{Reads, moved}
use Rattle.ver_emit.proofs.Fixed.{run, fixed_spelled}
use Rattle.ver_emit.proofs.Words.{Closes, OpensNoMark, word_spelled}
use Rattle.ver_emit.proofs.Ranges.{range_spelled}

-- each port is spelled as a name
abbrev pub AreNamed : List Port → Type 0
AreNamed = AllByRecursion (λ p. IsName p.name)

abbrev pub IsNarrow : Port → Type 0
IsNarrow p = (1 ≤ p.width) × (p.width ≤ 128)

abbrev pub AreNarrow : List Port → Type 0
AreNarrow = AllByRecursion IsNarrow

-- the word of a direction, and the space behind it
direction_read : (d : Direction) → run between (direction_keyword d ++ codes " ") ≡ Some (word (direction_keyword d) ∷ [], between)
direction_read Input = refl
direction_read Output = refl

-- the mark of a clock before what the direction begins with
mark_spelled : (is_clock : Bool) (rest : List ℕ) (ts : List VToken) → Reads rest ts → Reads (mark_text is_clock ++ rest) (mark_tokens is_clock ++ ts)
mark_spelled true rest ts e = fixed_spelled (mark_text true) rest (mark_tokens true) ts refl refl e
mark_spelled false rest ts e = e

-- a port before what closes its name
port_spelled : (p : Port) (rest : List ℕ) (ts : List VToken) → IsNarrow p → IsName p.name → Closes rest → Reads rest ts
    → Reads (port_text p ++ rest) (port_tokens p ++ ts)
port_spelled p rest ts narrow named c e =
    let name = word_spelled p.name rest ts named.spelled c e in
    let range = range_spelled p.width _ _ narrow.0 narrow.1 name in
    let direction = fixed_spelled (direction_keyword p.direction ++ codes " ") _ _ _ (direction_read p.direction) refl range in
    let behind_mark = moved _ _ _ _ (sym (append_assoc (direction_keyword p.direction) (codes " ") (range_text p.width ++ (p.name ++ rest)))) direction refl in
    let mark = mark_spelled p.is_clock _ _ behind_mark in
    let grouped = six_joined (codes "\n  ") (mark_text p.is_clock) (direction_keyword p.direction) (codes " ") (range_text p.width) p.name rest in
    let same = sym (three_joined (mark_tokens p.is_clock) (word (direction_keyword p.direction) ∷ range_tokens p.width) (word p.name ∷ []) ts) in
    moved _ _ _ _ grouped (fixed_spelled (codes "\n  ") _ _ _ refl refl mark) same

-- a comma or the end of the line closes a port
closed_by_ports : (ps : List Port) (rest : List ℕ) → Closes (flat_map next_port_text ps ++ 10 ∷ rest)
closed_by_ports [] rest = refl
closed_by_ports (p ∷ ps) rest = refl

-- the ports behind the first
next_ports_spelled : (ps : List Port) (rest : List ℕ) (ts : List VToken) → AreNarrow ps → AreNamed ps → Reads rest ts
    → Reads (flat_map next_port_text ps ++ 10 ∷ rest) (flat_map next_port_tokens ps ++ ts)
next_ports_spelled [] rest ts narrow named e = fixed_spelled (codes "\n") rest [] ts refl refl e
next_ports_spelled (p ∷ ps) rest ts narrow named e =
    let others = next_ports_spelled ps rest ts narrow.1 named.1 e in
    let port = port_spelled p _ _ narrow.0 named.0 (closed_by_ports ps rest) others in
    let grouped : flat_map next_port_text (p ∷ ps) ++ 10 ∷ rest ≡ codes "," ++ (port_text p ++ (flat_map next_port_text ps ++ 10 ∷ rest)) =
    append_assoc (next_port_text p) (flat_map next_port_text ps) (10 ∷ rest) in
    let same : sign 44 ∷ (port_tokens p ++ (flat_map next_port_tokens ps ++ ts)) ≡ flat_map next_port_tokens (p ∷ ps) ++ ts = simp append_assoc in
    moved _ _ _ _ grouped (fixed_spelled (codes ",") _ _ _ refl refl port) same

-- the ports before what closes their list
pub ports_spelled : (ps : List Port) (rest : List ℕ) (ts : List VToken) → AreNarrow ps → AreNamed ps → Reads rest ts
    → Reads (ports_text ps ++ rest) (ports_tokens ps ++ ts)
ports_spelled [] rest ts narrow named e = e
ports_spelled (p ∷ ps) rest ts narrow named e =
    let others = next_ports_spelled ps rest ts narrow.1 named.1 e in
    let port = port_spelled p _ _ narrow.0 named.0 (closed_by_ports ps rest) others in
    let grouped : ports_text (p ∷ ps) ++ rest ≡ port_text p ++ (flat_map next_port_text ps ++ 10 ∷ rest) =
    three_joined (port_text p) (flat_map next_port_text ps) (codes "\n") rest in
    let same : port_tokens p ++ (flat_map next_port_tokens ps ++ ts) ≡ ports_tokens (p ∷ ps) ++ ts = simp append_assoc in
    moved _ _ _ _ grouped port same

-- the list of ports begins with no star
pub ports_open_no_mark : (ps : List Port) (rest : List ℕ) → OpensNoMark (ports_text ps ++ 41 ∷ rest)
ports_open_no_mark [] rest = refl
ports_open_no_mark (p ∷ ps) rest = refl
