-- A memory has each field as it is to be exactly where it shows no fault, and then it has a type.
use Rattle.std.proofs.Common.{◌≡◌, List, [], ◌∷◌, ◌++◌, flat_map, codes, nat_le, Bool, true, ◌==◌, Some, refl}
use Rattle.std.proofs.lemmas.Bool.{leb-true, le-leb, eqb-true}
use Rattle.fir_ast.specs.declared.place.Place.{Place}
use Rattle.fir_ast.specs.Types.{DataType}
use Rattle.fir_ast.specs.Statements.{PlacedName, MemoryPart}
use Rattle.fir_meaning.specs.TypeKinds.{is_passive, is_sized}
use Rattle.fir_meaning.specs.KindFaults.{not_passive, memory_field}
use Rattle.fir_meaning.specs.MemoryTypes.{data_of_part, depth_of_part, first_one, memory_bundle, memory_type}
use Rattle.fir_meaning.specs.MemoryFaults.{read_latency_of_part, write_latency_of_part, read_under_write_of_part, is_one, is_at_most_one, field_faults_unless, flipped_data, memory_faults}
use Rattle.fir_meaning.specs.working.WellTyped.{MemoryIsLegal}
use Rattle.fir_meaning.proofs.PassedTests.{passes}
use Rattle.fir_base.proofs.Empty.{empty_left, empty_right}

-- the one, which passes
record IsOne {A : Type 0} (test : A → Bool) (xs : List A) : Type 0 where
  one : A
  alone : xs ≡ one ∷ []
  passed : test one ≡ true

one_passed : {A : Type 0} → (test : A → Bool) (xs : List A) → is_one test xs ≡ true → IsOne test xs
one_passed test [] h = cc
one_passed test (x ∷ []) h = record { one = x; alone = refl; passed = h }
one_passed test (x ∷ y ∷ xs) h = cc

pub clear_memory : (n : PlacedName) (parts : List MemoryPart) → memory_faults n parts ≡ [] → MemoryIsLegal parts
clear_memory n parts h =
    let types = flat_map data_of_part parts in
    let depths = flat_map depth_of_part parts in
    let reads = flat_map read_latency_of_part parts in
    let writes = flat_map write_latency_of_part parts in
    let rules = flat_map read_under_write_of_part parts in
    let flips = flipped_data n (first_one types) in
    let of_data = field_faults_unless (is_one is_sized types) n (codes "data-type") in
    let of_depth = field_faults_unless (is_one (λ words. nat_le 1 words) depths) n (codes "depth") in
    let of_read = field_faults_unless (is_one (λ l. nat_le l 1) reads) n (codes "read-latency") in
    let of_write = field_faults_unless (is_one (λ l. l == 1) writes) n (codes "write-latency") in
    let of_rule = field_faults_unless (is_at_most_one rules) n (codes "read-under-write") in
    let before_rule = empty_left ((((flips ++ of_data) ++ of_depth) ++ of_read) ++ of_write) of_rule h in
    let before_write = empty_left (((flips ++ of_data) ++ of_depth) ++ of_read) of_write before_rule in
    let before_read = empty_left ((flips ++ of_data) ++ of_depth) of_read before_write in
    let before_depth = empty_left (flips ++ of_data) of_depth before_read in
    let word = one_passed is_sized types (passes (is_one is_sized types) (memory_field n.place n.name (codes "data-type")) (empty_right flips of_data before_depth)) in
    let words = one_passed (λ words. nat_le 1 words) depths (passes (is_one (λ words. nat_le 1 words) depths) (memory_field n.place n.name (codes "depth")) (empty_right (flips ++ of_data) of_depth before_read)) in
    let read = one_passed (λ l. nat_le l 1) reads
    (passes (is_one (λ l. nat_le l 1) reads) (memory_field n.place n.name (codes "read-latency")) (empty_right ((flips ++ of_data) ++ of_depth) of_read before_write)) in
    let write = one_passed (λ l. l == 1) writes
    (passes (is_one (λ l. l == 1) writes) (memory_field n.place n.name (codes "write-latency")) (empty_right (((flips ++ of_data) ++ of_depth) ++ of_read) of_write before_rule)) in
    let one : write.one ≡ 1 = eqb-true write.one 1 write.passed in
    record {
      word_type = word.one;
      words = words.one;
      read = read.one;
      one_data = word.alone;
      passive = passes (is_passive word.one) (not_passive n.place word.one) (rw word.alone at (empty_left flips of_data before_depth));
      sized = word.passed;
      one_depth = words.alone;
      some = leb-true 1 words.one words.passed;
      one_read = read.alone;
      soon = leb-true read.one 1 read.passed;
      one_write = rw one at write.alone;
      rule = passes (is_at_most_one rules) (memory_field n.place n.name (codes "read-under-write")) (empty_right ((((flips ++ of_data) ++ of_depth) ++ of_read) ++ of_write) of_rule h);
    }

pub legal_memory : (n : PlacedName) (parts : List MemoryPart) → MemoryIsLegal parts → memory_faults n parts ≡ []
legal_memory n parts m =
    rw (m.one_data, m.one_depth, m.one_read, m.one_write, m.passive, m.sized, le-leb 1 m.words m.some, le-leb m.read 1 m.soon, m.rule) refl

pub memory_typed : (p : Place) (parts : List MemoryPart) → MemoryIsLegal parts → (t : DataType) × (memory_type p parts ≡ Some t)
memory_typed p parts m = (memory_bundle p parts m.word_type m.words, rw (m.one_data, m.one_depth) refl)
