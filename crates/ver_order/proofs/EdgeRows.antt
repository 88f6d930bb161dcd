-- Edges of small trees, event by event, computed by the checker.
use Rattle.std.proofs.Common.{◌≡◌, ℕ, suc, List, [], ◌∷◌, ◌++◌, refl, sym, ap, ◌∙◌, arith}
use Rattle.std.specs.Prelude.{codes, map, length, Some, None, if◌then◌else◌, false, true}
use Rattle.std.specs.Str.{bytes_eq}
use Rattle.fir_base.specs.Ticks.{Env, Tick}
use Rattle.fir_base.specs.declared.direction.Direction.TheVariants.{Input}
use Rattle.ver_ast.specs.declared.tree.Verilog.{Verilog}
use Rattle.ver_ast.specs.declared.tree.Port.{Port}
use Rattle.ver_ast.specs.declared.tree.Item.TheVariants as item
use Rattle.ver_ast.specs.declared.tree.Always.{Always}
use Rattle.ver_ast.specs.declared.tree.Resetting.{Resetting}
use Rattle.ver_ast.specs.declared.tree.Write.{Write}
use Rattle.ver_ast.specs.declared.tree.Writing.{Writing}
use Rattle.ver_ast.specs.Atoms.{net, constant}
use Rattle.ver_ast.specs.Nets.{AlwaysBlock, plain_block, resetting_block, writing_block}
use Rattle.ver_ast.specs.Next.{Put, acting}
use Rattle.ver_order.specs.working.Edges.{EdgeEvent, stepping, sampling, writing, after_events, before_edge, state_after_events, IsEdgeOrder}
use Rattle.ver_order.specs.working.Arranged.{IsRearranged, IsInterleaved}
use Rattle.ver_order.proofs.Elements.{length_between}

abbrev clock : Port
clock = record { is_clock = true; direction = Input; width = 1; name = codes "k" }

abbrev tick : List ℕ → Tick
tick rising = record { inputs = []; clocks = rising }

abbrev put : List ℕ → ℕ → ℕ → Put
put name place word = record { name = name; place = place; word = word }

-- ---- two registers that change places at an edge

abbrev takes : List ℕ → List ℕ → Always
takes target source = record { clock = codes "k"; target = target; source = net source }

abbrev exchange : Verilog
exchange = record {
  name = codes "T";
  ports = clock ∷ [];
  items =
      item.Reg (record { width = 4; name = codes "x" })
      ∷ item.Reg (record { width = 4; name = codes "y" })
      ∷ item.Always (takes (codes "x") (codes "y"))
      ∷ item.Always (takes (codes "y") (codes "x"))
      ∷ [];
  places = [];
}

abbrev x_block : AlwaysBlock
x_block = plain_block (takes (codes "x") (codes "y"))

abbrev y_block : AlwaysBlock
y_block = plain_block (takes (codes "y") (codes "x"))

-- the clock has the number 0
abbrev both : ℕ → ℕ → Env
both x y name = if bytes_eq name (codes "x") then x else (if bytes_eq name (codes "y") then y else 0)

-- the state after the events, where x is 1 and y is 2
abbrev exchanged : List EdgeEvent → List ℕ
exchanged events = state_after_events exchange (1 ∷ 2 ∷ []) (both 1 2) events

both_act : acting exchange (tick (0 ∷ [])) (both 1 2) ≡ x_block ∷ y_block ∷ []
both_act = refl

none_acts : acting exchange (tick []) (both 1 2) ≡ []
none_acts = refl

text_order : exchanged (sampling x_block ∷ sampling y_block ∷ writing (put (codes "x") 0 2) ∷ writing (put (codes "y") 0 1) ∷ []) ≡ 2 ∷ 1 ∷ []
text_order = refl

other_order : exchanged (sampling y_block ∷ sampling x_block ∷ writing (put (codes "y") 0 1) ∷ writing (put (codes "x") 0 2) ∷ []) ≡ 2 ∷ 1 ∷ []
other_order = refl

-- what a block writes is what it reads when it samples
sampled_is_read : (after_events exchange (sampling y_block ∷ sampling x_block ∷ []) (before_edge exchange (1 ∷ 2 ∷ []) (both 1 2))).sampled
    ≡ (put (codes "y") 0 1 ∷ []) ∷ (put (codes "x") 0 2 ∷ []) ∷ []
sampled_is_read = refl

-- a sample behind a write reads what was written: so no write may stand before a sample
sampled_too_late : (after_events exchange (sampling x_block ∷ writing (put (codes "x") 0 2) ∷ sampling y_block ∷ []) (before_edge exchange (1 ∷ 2 ∷ []) (both 1 2))).sampled
    ≡ (put (codes "x") 0 2 ∷ []) ∷ (put (codes "y") 0 2 ∷ []) ∷ []
sampled_too_late = refl

other_order_is_one : IsEdgeOrder exchange (1 ∷ 2 ∷ []) (tick (0 ∷ [])) (both 1 2)
    (stepping 0 ∷ sampling y_block ∷ stepping 3 ∷ sampling x_block ∷ [])
    (writing (put (codes "x") 0 2) ∷ stepping 0 ∷ writing (put (codes "y") 0 1) ∷ stepping 1 ∷ [])
other_order_is_one = record {
  no_writes = refl;
  no_samples = refl;
  each_block = (x_block ∷ [], [], refl, ([], [], refl, refl));
  each_write = ((put (codes "y") 0 1 ∷ []) ∷ [], [], [], refl, ([], [], [] ∷ [], refl, (refl, (refl, tt))));
}

-- ---- each element once

as_long : {A : Type 0} → (xs ys : List A) → IsRearranged xs ys → length xs ≡ length ys
as_long [] ys h = ap length (sym h)
as_long (x ∷ xs) ys h = ap suc (as_long xs (h.0 ++ h.1) h.3) ∙ sym (length_between h.0 x h.1) ∙ ap length (sym h.2)

three_in_another_order : IsRearranged {A = ℕ} (2 ∷ 0 ∷ 1 ∷ []) (0 ∷ 1 ∷ 2 ∷ [])
three_in_another_order = (0 ∷ 1 ∷ [], [], refl, ([], 1 ∷ [], refl, ([], [], refl, refl)))

none_twice : IsRearranged {A = ℕ} (0 ∷ 0 ∷ []) (0 ∷ []) → ⊥
none_twice h = let longer : 2 ≡ 1 = as_long (0 ∷ 0 ∷ []) (0 ∷ []) h in omega (arith, longer)

none_left_out : IsRearranged {A = ℕ} (0 ∷ []) (0 ∷ 1 ∷ []) → ⊥
none_left_out h = let shorter : 1 ≡ 2 = as_long (0 ∷ []) (0 ∷ 1 ∷ []) h in omega (arith, shorter)

two_lists_side_by_side : IsInterleaved {A = ℕ} (0 ∷ 5 ∷ 1 ∷ 6 ∷ []) ((0 ∷ 1 ∷ []) ∷ (5 ∷ 6 ∷ []) ∷ [])
two_lists_side_by_side =
    ([], 1 ∷ [], (5 ∷ 6 ∷ []) ∷ [], refl, ((1 ∷ []) ∷ [], 6 ∷ [], [], refl, ([], [], (6 ∷ []) ∷ [], refl, ([] ∷ [], [], [], refl, (refl, (refl, tt))))))

-- ---- two writes of one block to three words

abbrev write : ℕ → ℕ → ℕ → Write
write condition index source = record { condition = constant 1 condition; array = codes "m"; index = constant 2 index; source = constant 4 source }

-- the second write has no effect, as its condition is 0
abbrev three_writes : Writing
three_writes = record { clock = codes "k"; writes = write 1 1 7 ∷ write 0 1 8 ∷ write 1 1 9 ∷ [] }

abbrev words : Verilog
words = record {
  name = codes "T";
  ports = clock ∷ [];
  items = item.Array (record { width = 4; last = 2; name = codes "m" }) ∷ item.Writing three_writes ∷ [];
  places = [];
}

abbrev words_after : List EdgeEvent → List ℕ
words_after events = state_after_events words (4 ∷ 5 ∷ 6 ∷ []) (λ name. 0) events

two_are_sampled : (after_events words (sampling (writing_block three_writes) ∷ []) (before_edge words (4 ∷ 5 ∷ 6 ∷ []) (λ name. 0))).sampled
    ≡ (put (codes "m") 1 7 ∷ put (codes "m") 1 9 ∷ []) ∷ []
two_are_sampled = refl

later_write_wins : words_after (writing (put (codes "m") 1 7) ∷ writing (put (codes "m") 1 9) ∷ []) ≡ 4 ∷ 9 ∷ 6 ∷ []
later_write_wins = refl

past_the_end_is_nothing : words_after (writing (put (codes "m") 3 7) ∷ writing (put (codes "m") 2 9) ∷ []) ≡ 4 ∷ 5 ∷ 9 ∷ []
past_the_end_is_nothing = refl

-- the first write of a list by itself is its first element
first_of_one : (p q : Put) (front : List (List Put)) (left : List Put) (back : List (List Put)) → (p ∷ q ∷ []) ∷ [] ≡ front ++ (q ∷ left) ∷ back → p ≡ q
first_of_one p q [] left back e = cc
first_of_one p q (a ∷ []) left back e = absurd (cc)
first_of_one p q (a ∷ b ∷ front) left back e = absurd (cc)

-- so the writes of one block in another order are no edge
not_turned_round : IsEdgeOrder words (4 ∷ 5 ∷ 6 ∷ []) (tick (0 ∷ [])) (λ name. 0) (sampling (writing_block three_writes) ∷ [])
    (writing (put (codes "m") 1 9) ∷ writing (put (codes "m") 1 7) ∷ []) → ⊥
not_turned_round h =
    let w = h.each_write in
    let same : put (codes "m") 1 7 ≡ put (codes "m") 1 9 = first_of_one (put (codes "m") 1 7) (put (codes "m") 1 9) w.0 w.1 w.2 w.3 in
    let words : 7 ≡ 9 = ap (λ (p : Put). p.word) same in
    omega (arith, words)

-- ---- what is shown after a write: a register without an asynchronous block its word at once, the other by a step

abbrev held : Resetting
held = record { reset = codes "n"; tested = codes "n"; target = codes "y"; value = record { width = 4; number = Some 8 }; edge = None }

abbrev two_kinds : Verilog
two_kinds = record {
  name = codes "T";
  ports = record { is_clock = false; direction = Input; width = 1; name = codes "n" } ∷ [];
  items =
      item.Reg (record { width = 4; name = codes "x" })
      ∷ item.Reg (record { width = 4; name = codes "y" })
      ∷ item.Resetting held
      ∷ [];
  places = [];
}

abbrev shown_after : List EdgeEvent → List ℕ
shown_after events = map (after_events two_kinds events (before_edge two_kinds (1 ∷ 2 ∷ []) (both 1 2))).env (codes "x" ∷ codes "y" ∷ [])

shown_at_once : shown_after (writing (put (codes "x") 0 3) ∷ []) ≡ 3 ∷ 2 ∷ []
shown_at_once = refl

not_yet_shown : shown_after (writing (put (codes "y") 0 3) ∷ []) ≡ 1 ∷ 2 ∷ []
not_yet_shown = refl

shown_by_a_step : shown_after (writing (put (codes "y") 0 3) ∷ stepping 0 ∷ []) ≡ 1 ∷ 3 ∷ []
shown_by_a_step = refl

-- an asynchronous block acts while its reset is 1, and no clock rises
abbrev in_reset : Env
in_reset name = if bytes_eq name (codes "n") then 1 else 8

acts_in_reset : acting two_kinds (tick []) in_reset ≡ resetting_block held ∷ []
acts_in_reset = refl

constant_is_sampled : (after_events two_kinds (sampling (resetting_block held) ∷ []) (before_edge two_kinds (1 ∷ 2 ∷ []) in_reset)).sampled ≡ (put (codes "y") 0 8 ∷ []) ∷ []
constant_is_sampled = refl
