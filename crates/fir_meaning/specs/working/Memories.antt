-- What memories hold, read and take (FIRRTL spec, "Memories").
-- A read without its enable, for which its port writes, or past the depth gives zero; a write past the depth does nothing. Of two writes to one address that of
-- the later port wins.
use Rattle.std.specs.Prelude.{ℕ, ◌+◌, List, [], ◌∷◌, map, flat_map, length, Bool, true, ◌&&◌, nat_eq, nat_lt, if◌then◌else◌, Option, Some, None}
use Rattle.fir_ast.specs.declared.statements.ReadUnderWrite.{ReadUnderWrite}
use Rattle.fir_ast.specs.declared.statements.ReadUnderWrite.TheVariants.{Old, New, Undefined}
use Rattle.fir_meaning.specs.working.TermValues.{Env}
use Rattle.fir_meaning.specs.working.LeafModules.{Need, Reading, Writing}
use Rattle.fir_meaning.specs.working.LeafCircuits.{LeafCircuit}
use Rattle.fir_meaning.specs.working.LeafStates.{array_of}
use Rattle.fir_meaning.specs.ClockEdges.{has_edge}
use Rattle.fir_meaning.specs.MemoryWords.{word_behind, addresses}

abbrev pub is_met : (ℕ → ℕ) → Need → Bool
is_met numbers n = if n.high then nat_eq (numbers n.leaf) 1 else nat_eq (numbers n.leaf) 0

abbrev pub are_met : (ℕ → ℕ) → List Need → Bool
are_met numbers [] = true
are_met numbers (n ∷ ns) = is_met numbers n && are_met numbers ns

-- where an array begins in the state, of arrays of which the first begins at a place
abbrev pub begins_from : LeafCircuit → ℕ → List ℕ → ℕ → Option ℕ
begins_from c place [] k = None
begins_from c place (m ∷ ms) k = if nat_eq m k then Some place else begins_from c (place + (array_of c m).words) ms k

abbrev pub begins_at : LeafCircuit → ℕ → Option ℕ
begins_at c k = begins_from c (length c.words) c.array_order k

-- a word of an array before the writes
abbrev pub word_before : LeafCircuit → List ℕ → ℕ → ℕ → ℕ
word_before c state k address = word_behind state (begins_at c k) address

-- whether a port writes at an address
abbrev pub writes_at : List ℕ → Env → Writing → ℕ → Bool
writes_at named env w address = has_edge named (env.clocks w.clock) && are_met env.numbers w.needs && nat_eq (env.numbers w.address) address

-- what these writes leave at an address, where a word was
abbrev pub word_after : List ℕ → Env → List Writing → ℕ → ℕ → ℕ
word_after named env [] address word = word
word_after named env (w ∷ ws) address word =
    word_after named env ws address (if writes_at named env w address then env.numbers w.given else word)

-- what is read of an array of which the words are given
abbrev pub read_word : LeafCircuit → Env → Reading → (ℕ → ℕ) → ℕ
read_word c env r word =
    if are_met env.numbers r.needs && nat_lt (env.numbers r.address) (array_of c r.array).words then word (env.numbers r.address) else 0

abbrev pub read_before : LeafCircuit → List ℕ → Env → Reading → ℕ
read_before c state env r = read_word c env r (word_before c state r.array)

-- a word of an array after all writes of the tick
abbrev pub word_written : LeafCircuit → List ℕ → List ℕ → Env → ℕ → ℕ → ℕ
word_written c state named env k address = word_after named env (array_of c k).writings address (word_before c state k address)

abbrev pub read_after : LeafCircuit → List ℕ → List ℕ → Env → Reading → ℕ
read_after c state named env r = read_word c env r (word_written c state named env r.array)

-- what a pipe takes: the word before all writes of the tick, or after all of them
abbrev pub piped : LeafCircuit → List ℕ → List ℕ → Env → Reading → ReadUnderWrite → ℕ
piped c state named env r New = read_after c state named env r
piped c state named env r Old = read_before c state env r
piped c state named env r Undefined = read_before c state env r

abbrev pub array_next : LeafCircuit → List ℕ → List ℕ → Env → ℕ → List ℕ
array_next c state named env k = map (word_written c state named env k) (addresses 0 (array_of c k).words)

-- the arrays after the writes, one behind the other
abbrev pub arrays_next : LeafCircuit → List ℕ → List ℕ → Env → List ℕ
arrays_next c state named env = flat_map (array_next c state named env) c.array_order
