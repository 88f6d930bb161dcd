-- What the choices of a pipe's register give: the word of the array after all writes, and zero where nothing is read.
use Rattle.std.proofs.Common.{◌≡◌, ℕ, List, [], ◌∷◌, Bool, true, false, ◌&&◌, nat_eq, nat_lt, if◌then◌else◌, refl, sym, ap, ◌∙◌, subst, unwrap_or, option_map}
use Rattle.std.specs.Prelude.{slice_get, Option, Some}
use Rattle.std.specs.List.{AllByRecursion}
use Rattle.std.proofs.lemmas.Option.{same_Some}
use Rattle.fir_base.specs.Ticks.{Tick}
use Rattle.fir_bits.specs.Operators.{no_operand, outcome}
use Rattle.fir_bits.specs.declared.operators.PrimOp.TheVariants.{And, Eq, Lt}
use Rattle.fir_bits.specs.declared.types.NumTy.{NumTy}
use Rattle.fir_bits.specs.declared.values.Num.{Num}
use Rattle.fir_net.specs.declared.array.Array.{Array}
use Rattle.fir_net.specs.declared.array.ArrayRead.{ArrayRead}
use Rattle.fir_net.specs.declared.array.ArrayWrite.{ArrayWrite}
use Rattle.fir_net.specs.declared.array.Pipe.{Pipe}
use Rattle.fir_net.specs.declared.leaf.Leaf.{Leaf}
use Rattle.fir_net.specs.declared.node.Node.{Node}
use Rattle.fir_net.specs.declared.net.FlatNet.{FlatNet}
use Rattle.fir_net.specs.declared.reads.Read.{Read}
use Rattle.fir_net.specs.declared.reads.Read.TheVariants as read
use Rattle.fir_net.specs.working.Arrays.{begin_of, word_in, words_of}
use Rattle.fir_net.specs.working.IsNet.{CanRead, IsAddressed, IsArrayWrite, IsNet, IsReadOf, one_bit, read_type}
use Rattle.fir_net.specs.working.Laws.{NodesHaveTheirTypes, NodesHaveTheirValues}
use Rattle.fir_net.specs.working.Next.{is_written, piped, read_left, ticks, word_after, word_left}
use Rattle.fir_net.specs.working.Settled.{Settled, is_high, is_read, value_at, word_read}
use Rattle.fir_net.specs.working.Values.{IsOfType, at_width, chosen, node_value, number_of, type_of_leaf, values}
use Rattle.fir_clock_root.specs.working.ClockRoots.{HasRoot}
use Rattle.fir_mem.specs.declared.clocked_writes.PortWrite.{PortWrite}
use Rattle.fir_mem.specs.working.Built.{Built, bit, choice, literal, reading_of, zero_of}
use Rattle.fir_mem.specs.working.ClockedWrites.{AreClocked, IsEnd, kept, none, passed}
use Rattle.fir_mem.proofs.Building.{AtNode, Building, Chosen, Guarded, Takes, net_of, new, nothing, old, one}
use Rattle.fir_mem.proofs.Growth.{Grown, type_there}
use Rattle.fir_mem.proofs.SameValues.{Extends, same, word_read_same}
use Rattle.fir_mem.proofs.Truths.{bit_is, both_truth, choice_is, less_truth, own_width, same_truth, truth}

-- a write of an array, which acts exactly where it has a root, at edges that tick for a port of the array
pub record Acts (net : FlatNet) (clock : ℕ → Option ℕ) (named : List ℕ) (signed : Bool) (width : ℕ) (w : ArrayWrite) : Type 0 where
  pub write : IsArrayWrite net.leaves net.nodes signed width w
  pub acts : (n : ℕ) → HasRoot net w.clock n → ticks named (clock w.clock) ≡ true
  pub rests : ((n : ℕ) → HasRoot net w.clock n → ⊥) → ticks named (clock w.clock) ≡ false

module _
    (nodes_values : NodesHaveTheirValues) (nodes_types : NodesHaveTheirTypes) (net : FlatNet) (order : List Read) (whole : IsNet net) (b : Built) (B : Building net order b)
    (grown : Grown net.leaves net.nodes b.leaves b.nodes) (lowered_whole : IsNet (net_of net b)) (state : List ℕ) (tick : Tick) (env other : ℕ → ℕ) (clock : ℕ → Option ℕ) (named : List ℕ)
    (e : Extends net env other) (s : Settled net state tick env clock) (t : Settled (net_of net b) state tick other clock) where
  -- a value of the net, and of the lowered one
  abbrev own : Read → Num
  own r = value_at net env r

  abbrev its : Read → Num
  its r = value_at (net_of net b) other r

  kept_value : (r : Read) → CanRead net.leaves net.nodes r → its r ≡ own r
  kept_value r can = same net order whole b B grown env other e r can

  at_node : (r : Read) (n : Node) → AtNode b.nodes r n → its r ≡ node_value b.leaves other (values (net_of net b) other) n
  at_node r n h =
      ap its h.is ∙ ap (λ (o : Option Num). unwrap_or o no_operand) (nodes_values (net_of net b) other h.number n lowered_whole h.at)

  own_bit : (r : Read) → CanRead net.leaves net.nodes r → read_type net.leaves net.nodes r ≡ one_bit → own r ≡ truth (is_high net env r)
  own_bit r can is = bit_is (own r) (subst (λ (ty : NumTy). IsOfType ty (own r)) is (nodes_types net env r whole (record { each = s.fits }) can))

  own_unsigned : (r : Read) → CanRead net.leaves net.nodes r → (read_type net.leaves net.nodes r).signed ≡ false → (own r).signed ≡ false
  own_unsigned r can is = ap (λ (ty : NumTy). ty.signed) (nodes_types net env r whole (record { each = s.fits }) can).is ∙ is

  -- ---- the choice of one write
  chosen_one : (signed : Bool) (ty : NumTy) (w : ArrayWrite) (address r here written mid : Read) (x : ℕ) → IsArrayWrite net.leaves net.nodes signed ty.width w
      → CanRead net.leaves net.nodes address → (read_type net.leaves net.nodes address).signed ≡ false → ticks named (clock w.clock) ≡ true
      → AtNode b.nodes here (bit Eq w.address address) → AtNode b.nodes written (bit And w.condition here) → AtNode b.nodes mid (choice ty written w.given r)
      → its r ≡ number_of ty x
      → its mid ≡ number_of ty (if is_written net env clock named w (own address).value.number then at_width (own w.given) ty.width else x)
  chosen_one signed ty w address r here written mid x is can unsigned acts at_here at_written at_mid before =
      let number = (own address).value.number in
      let there = nat_eq (own w.address).value.number number in
      let high = is_high net env w.condition in
      let here_is : its here ≡ truth there =
      at_node here (bit Eq w.address address) at_here
      ∙ ap (λ (v : Num). outcome Eq (v ∷ its address ∷ []) []) (kept_value w.address is.addressed.address) ∙ ap (λ (v : Num). outcome Eq (own w.address ∷ v ∷ []) []) (kept_value address can)
      ∙ same_truth (own w.address) (own address) (own_unsigned w.address is.addressed.address is.addressed.unsigned) (own_unsigned address can unsigned) in
      let written_is : its written ≡ truth (high && there) =
      at_node written (bit And w.condition here) at_written
      ∙ ap (λ (v : Num). outcome And (v ∷ its here ∷ []) []) (kept_value w.condition is.addressed.enable ∙ own_bit w.condition is.addressed.enable is.addressed.has_one_bit)
      ∙ ap (λ (v : Num). outcome And (truth high ∷ v ∷ []) []) here_is ∙ both_truth high there in
      let acted : (high && there) ≡ is_written net env clock named w number = sym (ap (λ (a : Bool). a && (high && there)) acts) in
      at_node mid (choice ty written w.given r) at_mid
      ∙ ap (λ (v : Num). chosen ty (v ∷ its w.given ∷ its r ∷ [])) (written_is ∙ ap truth acted)
      ∙ ap (λ (v : Num). chosen ty (truth (is_written net env clock named w number) ∷ v ∷ its r ∷ [])) (kept_value w.given is.given)
      ∙ ap (λ (v : Num). chosen ty (truth (is_written net env clock named w number) ∷ own w.given ∷ v ∷ [])) before
      ∙ choice_is ty (is_written net env clock named w number) (own w.given) (number_of ty x)
      ∙ ap (λ (n : ℕ). number_of ty (if is_written net env clock named w number then at_width (own w.given) ty.width else n)) (own_width ty x)

  -- those of all writes
  chosen_all : (signed : Bool) (ty : NumTy) (address : Read) → CanRead net.leaves net.nodes address → (read_type net.leaves net.nodes address).signed ≡ false
      → (ws : List ArrayWrite) (ps : List PortWrite) (r out : Read) (x : ℕ) → AreClocked net ws ps → AllByRecursion (Acts net clock named signed ty.width) ws → Chosen b.nodes address ty ps r out
      → its r ≡ number_of ty x → its out ≡ number_of ty (word_after net env clock named ty.width ws (own address).value.number x)
  chosen_all signed ty address can unsigned _ _ _ _ x none acts (nothing r) before = before
  chosen_all signed ty address can unsigned _ _ r out x (passed w ws ps bare more) acts chosen before =
      let rests : is_written net env clock named w (own address).value.number ≡ false =
      ap (λ (a : Bool). a && (is_high net env w.condition && nat_eq (own w.address).value.number (own address).value.number)) (acts.0.rests bare) in
      chosen_all signed ty address can unsigned ws ps r out x more acts.1 chosen before
      ∙ ap (λ (a : Bool). number_of ty (word_after net env clock named ty.width ws (own address).value.number (if a then at_width (own w.given) ty.width else x))) (sym rests)
  chosen_all signed ty address can unsigned _ _ _ _ x (kept n w ws ps root more) acts (one _ _ r here written mid out at_here at_written at_mid rest) before =
      chosen_all signed ty address can unsigned ws ps mid out (if is_written net env clock named w (own address).value.number then at_width (own w.given) ty.width else x) more acts.1 rest
      (chosen_one signed ty w address r here written mid x acts.0.write can unsigned (acts.0.acts n root) at_here at_written at_mid before)

  -- zero where nothing is read
  guarded : (ty : NumTy) (r : ArrayRead) (a : Array) (end : Num) (taken out : Read) (y : ℕ) → IsAddressed net.leaves net.nodes r.address r.enable → slice_get net.arrays r.array ≡ Some a
      → IsEnd a.words end → Guarded b.nodes r ty end taken out → its taken ≡ number_of ty y → its out ≡ number_of ty (if is_read net env r then y else 0)
  guarded ty r a end taken out y is at has g before =
      let high = is_high net env r.enable in
      let words : end.value.number ≡ words_of net.arrays r.array = has.number ∙ sym (ap (λ (o : Option Array). unwrap_or (option_map (λ (x : Array). x.words) o) 0) at) in
      let less = nat_lt (own r.address).value.number end.value.number in
      let within_is : its g.within ≡ truth less =
      at_node g.within (bit Lt r.address g.last) g.at_within
      ∙ ap (λ (v : Num). outcome Lt (v ∷ its g.last ∷ []) []) (kept_value r.address is.address)
      ∙ ap (λ (v : Num). outcome Lt (own r.address ∷ v ∷ []) []) (at_node g.last (literal end) g.at_last)
      ∙ less_truth (own r.address) end (own_unsigned r.address is.address is.unsigned) has.unsigned in
      let read_is : its g.is_read ≡ truth (high && less) =
      at_node g.is_read (bit And r.enable g.within) g.at_read
      ∙ ap (λ (v : Num). outcome And (v ∷ its g.within ∷ []) []) (kept_value r.enable is.enable ∙ own_bit r.enable is.enable is.has_one_bit)
      ∙ ap (λ (v : Num). outcome And (truth high ∷ v ∷ []) []) within_is ∙ both_truth high less in
      let reads : (high && less) ≡ is_read net env r = ap (λ (n : ℕ). high && nat_lt (own r.address).value.number n) words in
      at_node out (choice ty g.is_read taken g.none) g.at_out
      ∙ ap (λ (v : Num). chosen ty (v ∷ its taken ∷ its g.none ∷ [])) (read_is ∙ ap truth reads)
      ∙ ap (λ (v : Num). chosen ty (truth (is_read net env r) ∷ v ∷ its g.none ∷ [])) before
      ∙ ap (λ (v : Num). chosen ty (truth (is_read net env r) ∷ number_of ty y ∷ v ∷ [])) (at_node g.none (literal (zero_of ty)) g.at_none)
      ∙ choice_is ty (is_read net env r) (number_of ty y) (zero_of ty)
      ∙ ap (λ (n : ℕ). number_of ty (if is_read net env r then n else at_width (number_of ty 0) ty.width)) (own_width ty y)
      ∙ ap (λ (n : ℕ). number_of ty (if is_read net env r then y else n)) (own_width ty 0)

  -- what is read at once in the place of a pipe
  word_is : (h : ℕ) (l : Leaf) (r : ArrayRead) → slice_get b.leaves h ≡ Some (reading_of l r) → IsAddressed net.leaves net.nodes r.address r.enable
      → its (read.Leaf h) ≡ number_of (type_of_leaf l) (word_read net state env r)
  word_is h l r at is =
      ap (λ (ty : NumTy). number_of ty (other h)) (type_there b.leaves h (reading_of l r) at)
      ∙ ap (number_of (type_of_leaf l)) (t.arrays_read h (reading_of l r) r at refl ∙ word_read_same net order whole b B grown env other e state r is)

  left_is : (r : ArrayRead) (a : Array) (width : ℕ) → slice_get net.arrays r.array ≡ Some a → a.width ≡ width
      → (if is_read net env r then word_after net env clock named width a.writes (own r.address).value.number (word_read net state env r) else 0) ≡ read_left net env clock named state r
  left_is r a width at wide = by (is_read net env r) (slice_get net.arrays r.array) at
    where
      by : (x : Bool) (o : Option Array) → o ≡ Some a
          → (if x then word_after net env clock named width a.writes (own r.address).value.number (if x then word_in state (begin_of net r.array) (own r.address).value.number else 0) else 0)
          ≡ (if x then word_left net env clock named state r.array (own r.address).value.number o else 0)
      by false o f = refl
      by true o f = rw (f, ← wide) refl

  -- what the register takes is what the pipe takes
  pub takes_value : (l : Leaf) (p : Pipe) (next : Read) → IsAddressed net.leaves net.nodes p.read.address p.read.enable → IsReadOf net.arrays l p.read
      → ((a : Array) → slice_get net.arrays p.read.array ≡ Some a → AllByRecursion (Acts net clock named a.signed a.width) a.writes)
      → Takes net b.leaves b.nodes l p next → at_width (its next) l.width ≡ piped net env clock named state p
  takes_value l p _ is of acts (old h high at was) =
      ap (λ (v : Num). at_width v l.width) (word_is h l p.read at is) ∙ own_width (type_of_leaf l) (word_read net state env p.read)
      ∙ sym (ap (λ (x : Bool). if x then read_left net env clock named state p.read else word_read net state env p.read) was)
  takes_value l p _ is of acts (new h a ws taken out high at was array clocked chosen g) =
      let same_array : of.0 ≡ a = same_Some of.0 a (sym of.1 ∙ array) in
      let wide : a.width ≡ l.width = ap (λ (x : Array). x.width) (sym same_array) ∙ of.2 in
      let ty = type_of_leaf l in
      let word = word_read net state env p.read in
      let left = word_after net env clock named l.width a.writes (own p.read.address).value.number word in
      let all = subst (λ (w : ℕ). AllByRecursion (Acts net clock named a.signed w) a.writes) wide (acts a array) in
      let taken_is : its taken ≡ number_of ty left =
      chosen_all a.signed ty p.read.address is.address is.unsigned a.writes ws.writes (read.Leaf h) taken word clocked.writes all chosen (word_is h l p.read at is) in
      let out_is = guarded ty p.read a ws.end taken out left is array clocked.end g taken_is in
      ap (λ (v : Num). at_width v l.width) out_is ∙ own_width ty (if is_read net env p.read then left else 0)
      ∙ left_is p.read a l.width array wide
      ∙ sym (ap (λ (x : Bool). if x then read_left net env clock named state p.read else word_read net state env p.read) was)
