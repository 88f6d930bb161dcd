-- Rooms of values that are made, and that take their numbers.
use Rattle.std.proofs.Common.{◌≡◌, ℕ, zero, suc, ◌+◌, ◌-◌, ◌^◌, ◌<◌, ◌≤◌, List, [], ◌∷◌, ◌++◌, length, take, drop, get_or, replicate, false, refl, sym, ap, ◌∙◌, inl, subst, arith, add-one, drop-cons}
use Rattle.std.specs.Prelude.{flat_map}
use Rattle.std.proofs.Math.ListN.{set, length-set}
use Rattle.std.proofs.Math.Seq.{take-suc-set}
use Rattle.std.proofs.lemmas.List.{append-nil, append_assoc, drop-set-lt, map-append, take_all, take_more, length-map}
use Rattle.std.proofs.lemmas.Bool.{cond-false}
use Rattle.fir_base.specs.Lists.{In}
use Rattle.fir_base.specs.Ticks.{FitEach}
use Rattle.fir_base.proofs.Each.{all_at}
use Rattle.fir_base.proofs.Members.{in_left, in_flat_map}
use Rattle.fir_bits.specs.Values.{BitVector}
use Rattle.trace_text.specs.RunLines.{with_widths}
use Rattle.trace_text.specs.Shapes.{TraceShape, size_of, state_widths}
use Rattle.trace_text.specs.declared.shape.StateWord.{StateWord}
use Rattle.trace_text.specs.working.Shapes.{IsShape, IsStateWord}
use Rattle.ver_ast.specs.declared.tree.Port.{Port}
use Rattle.ver_ast.specs.declared.tree.Verilog.{Verilog}
use Rattle.ver_ast.specs.Nets.{SizedNet, port_net, port_nets, item_net}
use Rattle.ver_ast.specs.Valid.{Valid}
use Rattle.ver_sim.proofs.PairLists.{flat_map-append, in_at}
use Rattle.ver_runner.specs.working.Rooms.{widths}

-- an output has a width of at most 128 bits
pub narrow_output : (v : Verilog) → Valid v → (items : List Port) (i : ℕ) (p : Port) → i < length items → p ≡ get_or items i p → items ≡ v.ports → p.is_clock ≡ false
    → p.width ≤ 128
narrow_output v valid items i p within is all plain =
    let there : In v.ports p = subst (λ (ps : List Port). In ps p) all (in_at items i p within is) in
    let net : In (port_net p) (p.name, p.width) =
    subst (λ (ns : List SizedNet). In ns (p.name, p.width)) (sym (cond-false p.is_clock [] ((p.name, p.width) ∷ []) plain)) (inl refl) in
    (valid.narrow p.name p.width (in_left (port_nets v) (flat_map item_net v.items) (p.name, p.width) (in_flat_map port_net v.ports p (p.name, p.width) there net))).1

pub narrow_word : (s : TraceShape) → IsShape s → (ws : List StateWord) → ws ≡ s.state → (i : ℕ) (w : StateWord) → i < length ws → w ≡ get_or ws i w → w.width ≤ 128
narrow_word s whole ws all i w within is =
    let there : In s.state w = subst (λ (xs : List StateWord). In xs w) all (in_at ws i w within is) in
    (all_at IsStateWord s.state whole.words w there).narrow.1

same_widths : (n : ℕ) (b : BitVector) → widths (replicate n b) ≡ replicate n b.width
same_widths zero b = refl
same_widths (suc n) b = ap (λ ws. b.width ∷ ws) (same_widths n b)

-- room for the words of one name more
pub words_more : (ws : List StateWord) (i : ℕ) (w : StateWord) (b : BitVector) (old new : List BitVector) (n count size : ℕ) → i < length ws → w ≡ get_or ws i w
    → widths old ≡ state_widths (take i ws) → n ≡ length old → count ≡ n → size ≡ size_of w → b.width ≡ w.width
    → new ≡ take (count + size) old ++ replicate (count + size - n) b → widths new ≡ state_widths (take (i + 1) ws)
words_more ws i w b old new n count size within is before long counted sized wide h =
    let room : length old ≤ count + size = omega arith in
    let added : count + size - n ≡ size_of w = omega arith in
    let more : take (i + 1) ws ≡ take i ws ++ w ∷ [] = take_more ws i w within ∙ ap (λ x. take i ws ++ x ∷ []) (sym is) in
    let one = replicate (size_of w) w.width in
    let all : state_widths (take (i + 1) ws) ≡ state_widths (take i ws) ++ one =
    ap state_widths more ∙ flat_map-append (λ (s : StateWord). replicate (size_of s) s.width) (take i ws) (w ∷ []) ∙ ap (λ t. state_widths (take i ws) ++ t) (append-nil one) in
    let parts : new ≡ old ++ replicate (size_of w) b =
    h ∙ ap (λ t. t ++ replicate (count + size - n) b) (take_all (count + size) old room) ∙ ap (λ k. old ++ replicate k b) added in
    ap widths parts ∙ map-append (λ (x : BitVector). x.width) old (replicate (size_of w) b)
    ∙ ap (λ t. widths old ++ t) (same_widths (size_of w) b ∙ ap (replicate (size_of w)) wide)
    ∙ ap (λ t. t ++ one) before ∙ sym all

fit_long : (ws ns : List ℕ) → FitEach ws ns → length ws ≡ length ns
fit_long [] [] f = refl
fit_long [] (n ∷ ns) f = absurd f
fit_long (w ∷ ws) [] f = absurd f
fit_long (w ∷ ws) (n ∷ ns) f = ap suc (fit_long ws ns f.1)

-- the first values have taken their numbers
pub record FilledTo (first now : List BitVector) (numbers : List ℕ) (i : ℕ) : Type 0 where
  pub long : length now ≡ length numbers
  pub fits : FitEach (widths (drop i now)) (drop i numbers)
  pub done : take i now ++ with_widths (widths (drop i now)) (drop i numbers) ≡ with_widths (widths first) numbers

pub none_filled : (first : List BitVector) (numbers : List ℕ) → FitEach (widths first) numbers → FilledTo first first numbers 0
none_filled first numbers f = record {
  long = sym (length-map first (λ (b : BitVector). b.width)) ∙ fit_long (widths first) numbers f;
  fits = f;
  done = refl;
}

module _ (first now : List BitVector) (numbers : List ℕ) (i : ℕ) (old : BitVector) (number : ℕ) (h : FilledTo first now numbers i) (low : i < length numbers)
    (is : old ≡ get_or now i old) (number_is : number ≡ get_or numbers i 0) where
  within : i < length now
  within = omega (arith, h.long)

  left : drop i now ≡ old ∷ drop (suc i) now
  left = drop-cons now i old within ∙ ap (λ b. b ∷ drop (suc i) now) (sym is)

  numbers_left : drop i numbers ≡ number ∷ drop (suc i) numbers
  numbers_left = drop-cons numbers i 0 low ∙ ap (λ n. n ∷ drop (suc i) numbers) (sym number_is)

  parts : FitEach (old.width ∷ widths (drop (suc i) now)) (number ∷ drop (suc i) numbers)
  parts =
      subst (λ (ns : List ℕ). FitEach (old.width ∷ widths (drop (suc i) now)) ns) numbers_left
      (subst (λ (bs : List BitVector). FitEach (widths bs) (drop i numbers)) left h.fits)

  pub fits_here : number < 2 ^ old.width
  fits_here = parts.0

  abbrev filled : BitVector
  filled = record { width = old.width; number = number }

  pub filled_more : (new : List BitVector) → new ≡ set now i filled → FilledTo first new numbers (i + 1)
  filled_more new set_is =
      let behind : drop (suc i) (set now i filled) ≡ drop (suc i) now = drop-set-lt (suc i) now i filled (omega arith) in
      let front : take (suc i) (set now i filled) ≡ take i now ++ filled ∷ [] = take-suc-set now i filled within in
      let whole : take i now ++ (filled ∷ with_widths (widths (drop (suc i) now)) (drop (suc i) numbers)) ≡ with_widths (widths first) numbers =
      ap (λ (ns : List ℕ). take i now ++ with_widths (old.width ∷ widths (drop (suc i) now)) ns) (sym numbers_left)
      ∙ ap (λ (bs : List BitVector). take i now ++ with_widths (widths bs) (drop i numbers)) (sym left) ∙ h.done in
      subst (λ (bs : List BitVector). FilledTo first bs numbers (i + 1)) (sym set_is)
      (rw add-one
      (record {
        long = length-set now i filled ∙ h.long;
        fits = subst (λ (bs : List BitVector). FitEach (widths bs) (drop (suc i) numbers)) (sym behind) parts.1;
        done =
            ap (λ (bs : List BitVector). take (suc i) (set now i filled) ++ with_widths (widths bs) (drop (suc i) numbers)) behind
            ∙ ap (λ (bs : List BitVector). bs ++ with_widths (widths (drop (suc i) now)) (drop (suc i) numbers)) front
            ∙ append_assoc (take i now) (filled ∷ []) (with_widths (widths (drop (suc i) now)) (drop (suc i) numbers)) ∙ whole;
      }))

pub all_filled : (first now : List BitVector) (numbers : List ℕ) (i : ℕ) → FilledTo first now numbers i → length numbers ≤ i → now ≡ with_widths (widths first) numbers
all_filled first now numbers i h end =
    let all : take i now ≡ now = take_all i now (omega (arith, h.long)) in
    let none : drop i now ≡ [] = nothing now i (omega (arith, h.long)) in
    sym (append-nil now) ∙ ap (λ (bs : List BitVector). bs ++ []) (sym all)
    ∙ ap (λ (bs : List BitVector). take i now ++ with_widths (widths bs) (drop i numbers)) (sym none) ∙ h.done
  where
    nothing : (bs : List BitVector) (k : ℕ) → length bs ≤ k → drop k bs ≡ []
    nothing [] zero le = refl
    nothing [] (suc k) le = refl
    nothing (b ∷ bs) zero le = absurd (omega arith)
    nothing (b ∷ bs) (suc k) le = nothing bs k (omega arith)

-- numbers at their widths keep the widths
pub widths_kept : (ws ns : List ℕ) → FitEach ws ns → widths (with_widths ws ns) ≡ ws
widths_kept [] [] f = refl
widths_kept [] (n ∷ ns) f = absurd f
widths_kept (w ∷ ws) [] f = absurd f
widths_kept (w ∷ ws) (n ∷ ns) f = ap (λ xs. w ∷ xs) (widths_kept ws ns f.1)

-- a room that is filled again
pub room_kept : (old new : List BitVector) (ws ns ms : List ℕ) → widths old ≡ ws → FitEach ws ns → ms ≡ ns → new ≡ with_widths (widths old) ms → widths new ≡ ws
room_kept old new ws ns ms wide fit same filled =
    ap widths (filled ∙ ap (λ (xs : List ℕ). with_widths xs ms) wide ∙ ap (with_widths ws) same) ∙ widths_kept ws ns fit
