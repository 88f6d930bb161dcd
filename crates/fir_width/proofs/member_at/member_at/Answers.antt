use Rattle.std.proofs.Common.{◌≡◌, ◌-◌, ◌<◌, ◌≤◌, leb, leb-true, get_or, length, ℕ, List, Option, Some, None, Bor, sym, subst, arith, rules}
use Rattle.std.specs.Prelude.{IfSome}
use Rattle.std.specs.Slice.{IsItemAt}
use Rattle.std.proofs.lemmas.Bool.{leb-false}
use Rattle.std.proofs.lemmas.List.Sorted.{IsPartitionPoint-from_clause, IsPartitionedBy-leb}
use Rattle.fir_type_table.specs.declared.entry.Member.{Member}
use Rattle.fir_width.specs.declared.counted.Counted.{Counted}
use Rattle.fir_width.specs.working.CountedLeaves.{before_member}
use Rattle.fir_width.specs.working.FieldsAt.{IsLastUpTo}
use Rattle.fir_width.proofs.member_at.member_at.Goals as goal

-- the member in front of the first whose offset is greater
last_up_to : (by : Counted) (ms : List Member) (leaf behind k : ℕ) → 1 ≤ behind → k ≡ behind - 1
    → ((j : ℕ) (d : Member) → j < behind → before_member by (get_or ms j d) ≤ leaf)
    → ((j : ℕ) (d : Member) → behind ≤ j → j < length ms → leaf < before_member by (get_or ms j d))
    → (o : Option (Bor Member)) → IsItemAt ms k o → IfSome o (λ m. IsLastUpTo by ms leaf m.now)
last_up_to by ms leaf behind k some is front back None at = tt
last_up_to by ms leaf behind k some is front back (Some m) at = record {
  position = k;
  within = at.3.0;
  here = at.1;
  up_to = subst (λ n. before_member by n ≤ leaf) (sym at.1) (front k m.now (omega arith));
  last = λ j d lt among. back j d (omega arith) among;
}

pub returns : goal.returns
returns c = λ rise.
    let ms = c.args.members.now in
    let parted = IsPartitionedBy-leb (before_member c.args.counted) _ c.args.leaf rise in
    let point =
    IsPartitionPoint-from_clause (λ (m : Member). leb (before_member c.args.counted m) c.args.leaf) _ _
    c.partition_point-behind.ensures.partitioned parted (λ a r q k. search rules) in
    let less = c.in_ok-checked_sub.ensures in
    last_up_to c.args.counted ms c.args.leaf c.partition_point-behind.result c.in_ok-checked_sub.field-0 less.0 less.1
    (λ j d lt. leb-true _ _ (point.0 j d (omega arith) lt)) (λ j d up among. leb-false _ _ (point.1 j d up among)) c.get.result c.get.ensures.lookup
