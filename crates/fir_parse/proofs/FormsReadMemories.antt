-- Tokens that spell a memory's fields are read as those.
use Rattle.std.proofs.Common.{◌≡◌, ℕ, List, [], ◌∷◌, codes, refl, ap, ◌∙◌}
use Rattle.fir_ast.specs.declared.place.Place.{Place}
use Rattle.fir_ast.specs.declared.statements.ReadUnderWrite.{ReadUnderWrite}
use Rattle.fir_ast.specs.Statements.{PlacedName, MemoryPart, data_type, depth, read_latency, write_latency, reader, writer, readwriter, read_under_write}
use Rattle.fir_parse.specs.declared.words.FieldWord.{FieldWord}
use Rattle.fir_parse.specs.declared.words.FieldWord.TheVariants as memory_word
use Rattle.fir_parse.specs.declared.lexeme.Mark.TheVariants.{Arrow}
use Rattle.fir_parse.specs.Lexemes.{Lexeme, Terminal, word, dash_word, line_end, level_opens, level_closes}
use Rattle.fir_parse.specs.working.Words.{field_word_of}
use Rattle.fir_parse.specs.Pieces.{TokenAt, Sign, WordToken, LineEnd, Closes, Int}
use Rattle.fir_parse.specs.StatementForms.{AreNames, IsNames, under_write_word, IsMemoryPart, AreMemoryParts, IsMemoryBody}
use Rattle.fir_parse.specs.working.Symbols.{a_memory_body, a_memory_field, more_memory_fields, more_names, an_under_write}
use Rattle.fir_parse.specs.working.States.{State, wants}
use Rattle.fir_parse.specs.working.MemoryRules.{number_plan, names_plan, by_field_word, memory_field_step, then_fields, more_memory_fields_step, under_write}
use Rattle.fir_parse.specs.working.Reading.{Outcome, read_on, goes_on}
use Rattle.fir_parse.proofs.Completions.{Skips, TailEnds}
use Rattle.fir_parse.proofs.SpelledWords.{under_write_read}
use Rattle.fir_parse.proofs.FormsReadPieces.{takes_token, leaves_token, tail_ends_at, reads_same, read_sign, read_natural, read_name, read_line_end}
use Rattle.fir_parse.proofs.FormsReadTypes.{read_whole_type}
use Rattle.fir_parse.specs.Limits.{Limits}

module _ (limits : Limits) where
  pub line_ends : (a b : List Terminal) → LineEnd a b → TailEnds a
  line_ends a b (p, e) = tail_ends_at limits line_end p a b e refl

  read_number : (n : ℕ) (a m c b : List Terminal) → Sign Arrow a m → Int limits n m c → LineEnd c b → (end : Place) (k : ℕ → State) → read_on limits end (number_plan k) a ≡ read_on limits end (k n) b
  read_number n a m c b s (q, i) l end k = read_sign limits Arrow a m s end _ ∙ read_natural limits n q m c i end _ ∙ read_line_end limits c b l end _

  read_more_names : (ns : List PlacedName) (a m b : List Terminal) → AreNames ns a m → LineEnd m b → (end : Place) (k : List PlacedName → State) → read_on limits end (wants more_names k) a ≡ read_on limits end (k ns) b
  read_more_names [] a m b x (p, e) end k = takes_token limits more_names _ line_end p a b (x ∙ e) refl end k
  read_more_names (n ∷ ns) a m b (c, e, x) l end k = takes_token limits more_names _ (word n.name) n.place a c e refl end k ∙ read_more_names ns c m b x l end _

  read_names : (ns : List PlacedName) (a b : List Terminal) → IsNames ns a b → (end : Place) (k : List PlacedName → State) → read_on limits end (names_plan k) a ≡ read_on limits end (k ns) b
  read_names [] a b x end k = absurd x
  read_names (n ∷ ns) a b (m1, s, (m2, e, (m3, x, l))) end k = read_sign limits Arrow a m1 s end _ ∙ read_name limits n m1 m2 e end _ ∙ read_more_names ns m2 m3 b x l end _

  read_rule : (u : ReadUnderWrite) (a b : List Terminal) → WordToken (under_write_word u) a b → (end : Place) (k : ReadUnderWrite → State) → read_on limits end (wants an_under_write k) a ≡ read_on limits end (k u) b
  read_rule u a b (p, e) end k = takes_token limits an_under_write (λ f. f u) (word (under_write_word u)) p a b e (ap under_write (under_write_read u)) end k

  -- one field
  read_part : (d : ℕ) (f : MemoryPart) (a b : List Terminal) → IsMemoryPart limits d f a b → (end : Place) (k : MemoryPart → State) → read_on limits end (wants (a_memory_field d) k) a ≡ read_on limits end (k f) b
  read_part d (data_type p q t) a b (m1, e, (m2, s, (m3, x, l))) end k = takes_token limits (a_memory_field d) _ (dash_word (codes "data-type")) p a m1 e refl end k ∙ read_sign limits Arrow m1 m2 s end _ ∙ read_whole_type limits d q t m2 m3 x (line_ends m3 b l) end _ ∙ read_line_end limits m3 b l end _
  read_part d (depth p n) a b (m1, e, (m2, s, (m3, i, l))) end k = takes_token limits (a_memory_field d) _ (word (codes "depth")) p a m1 e refl end k ∙ read_number n m1 m2 m3 b s i l end _
  read_part d (read_latency p n) a b (m1, e, (m2, s, (m3, i, l))) end k = takes_token limits (a_memory_field d) _ (dash_word (codes "read-latency")) p a m1 e refl end k ∙ read_number n m1 m2 m3 b s i l end _
  read_part d (write_latency p n) a b (m1, e, (m2, s, (m3, i, l))) end k = takes_token limits (a_memory_field d) _ (dash_word (codes "write-latency")) p a m1 e refl end k ∙ read_number n m1 m2 m3 b s i l end _
  read_part d (reader p ns) a b (m1, e, x) end k = takes_token limits (a_memory_field d) _ (word (codes "reader")) p a m1 e refl end k ∙ read_names ns m1 b x end (λ y. k (reader p y))
  read_part d (writer p ns) a b (m1, e, x) end k = takes_token limits (a_memory_field d) _ (word (codes "writer")) p a m1 e refl end k ∙ read_names ns m1 b x end (λ y. k (writer p y))
  read_part d (readwriter p ns) a b (m1, e, x) end k = takes_token limits (a_memory_field d) _ (word (codes "readwriter")) p a m1 e refl end k ∙ read_names ns m1 b x end (λ y. k (readwriter p y))
  read_part d (read_under_write p u) a b (m1, e, (m2, s, (m3, x, l))) end k = takes_token limits (a_memory_field d) _ (dash_word (codes "read-under-write")) p a m1 e refl end k ∙ read_sign limits Arrow m1 m2 s end _ ∙ read_rule u m2 m3 x end _ ∙ read_line_end limits m3 b l end _

  -- a field behind another is read as a field
  abbrev then_parts : ℕ → (List MemoryPart → State) → MemoryPart → State
  then_parts d k f = wants (more_memory_fields d) (λ fs. k (f ∷ fs))

  same_field : (f : FieldWord) (d : ℕ) (p : Place) (k : List MemoryPart → State) (behind : State → Outcome) (v : List MemoryPart → Outcome) (w : MemoryPart → Outcome) → goes_on (then_fields d (by_field_word f d p)) p k behind v ≡ goes_on (by_field_word f d p) p (then_parts d k) behind w
  same_field memory_word.Name d p k behind v w = refl
  same_field memory_word.DataType d p k behind v w = refl
  same_field memory_word.Depth d p k behind v w = refl
  same_field memory_word.ReadLatency d p k behind v w = refl
  same_field memory_word.WriteLatency d p k behind v w = refl
  same_field memory_word.Reader d p k behind v w = refl
  same_field memory_word.Writer d p k behind v w = refl
  same_field memory_word.Readwriter d p k behind v w = refl
  same_field memory_word.ReadUnderWrite d p k behind v w = refl

  begins_at : (d : ℕ) (l : Lexeme) (p : Place) (a b : List Terminal) → TokenAt l p a b → more_memory_fields_step d l p ≡ then_fields d (memory_field_step d l p) → (end : Place) (k : List MemoryPart → State) → read_on limits end (wants (more_memory_fields d) k) a ≡ read_on limits end (wants (a_memory_field d) (then_parts d k)) a
  unfolding read_on
  begins_at d l p a b e h end k = rw e (rw h (same_field (field_word_of l) d p k _ _ _))

  begins_part : (d : ℕ) (f : MemoryPart) (a b : List Terminal) → IsMemoryPart limits d f a b → (end : Place) (k : List MemoryPart → State) → read_on limits end (wants (more_memory_fields d) k) a ≡ read_on limits end (wants (a_memory_field d) (then_parts d k)) a
  begins_part d (data_type p q t) a b (m, e, x) = begins_at d (dash_word (codes "data-type")) p a m e refl
  begins_part d (depth p n) a b (m, e, x) = begins_at d (word (codes "depth")) p a m e refl
  begins_part d (read_latency p n) a b (m, e, x) = begins_at d (dash_word (codes "read-latency")) p a m e refl
  begins_part d (write_latency p n) a b (m, e, x) = begins_at d (dash_word (codes "write-latency")) p a m e refl
  begins_part d (reader p ns) a b (m, e, x) = begins_at d (word (codes "reader")) p a m e refl
  begins_part d (writer p ns) a b (m, e, x) = begins_at d (word (codes "writer")) p a m e refl
  begins_part d (readwriter p ns) a b (m, e, x) = begins_at d (word (codes "readwriter")) p a m e refl
  begins_part d (read_under_write p u) a b (m, e, x) = begins_at d (dash_word (codes "read-under-write")) p a m e refl

  read_more_parts : (d : ℕ) (fs : List MemoryPart) (a m b : List Terminal) → AreMemoryParts limits d fs a m → Closes m b → (end : Place) (k : List MemoryPart → State) → read_on limits end (wants (more_memory_fields d) k) a ≡ read_on limits end (k fs) b
  read_more_parts d [] a m b x (p, e) end k = takes_token limits (more_memory_fields d) _ level_closes p a b (x ∙ e) refl end k
  read_more_parts d (f ∷ fs) a m b (c, x, y) z end k = begins_part d f a c x end k ∙ read_part d f a c x end _ ∙ read_more_parts d fs c m b y z end _

  pub read_memory_body : (d : ℕ) (fs : List MemoryPart) (a b : List Terminal) → IsMemoryBody limits d fs a b → Skips (a_memory_body d) [] b → (end : Place) (k : List MemoryPart → State) → read_on limits end (wants (a_memory_body d) k) a ≡ read_on limits end (k fs) b
  read_memory_body d [] a b x f end k = reads_same limits (wants (a_memory_body d) k) a b x end ∙ leaves_token limits (a_memory_body d) [] b f end k
  read_memory_body d (f ∷ fs) a b (m1, (p, e), (m2, x, (m3, y, c))) g end k =
      takes_token limits (a_memory_body d) _ level_opens p a m1 e refl end k ∙ read_part d f m1 m2 x end _ ∙ read_more_parts d fs m2 m3 b y c end _
