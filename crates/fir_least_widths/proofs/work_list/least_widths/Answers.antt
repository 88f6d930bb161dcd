use Rattle.std.proofs.Common.{rules, arith, get_or}
use Rattle.fir_least_widths.specs.declared.bound.Bound.{Bound}
use Rattle.fir_least_widths.specs.declared.bound.Term.TheVariants.{Known}
use Rattle.fir_least_widths.proofs.Looks.{Looked, looked, begun, least, leaves_if_stays, leaves_if_rises, readers_within}
use Rattle.fir_least_widths.proofs.work_list.least_widths.Goals as goal

abbrev no_bound : Bound
no_bound = record { unknown = 0; term = Known 0 }

pub loop-place-init : goal.loop-place-init
loop-place-init c = begun c.args.bounds.now c.args.unknowns _ _ (search rules) c.in_ok-waiting.ensures

pub bounds-bounds-place : goal.bounds-bounds-place
bounds-bounds-place c = (looked _ _ _ _ _ _ no_bound c.requires c.loop-place.invariant c.in-Some.ensures.some).within

pub raise-requires-clause-unknown : goal.raise-requires-clause-unknown
raise-requires-clause-unknown c =
    rw c.deref_mut.ensures.value (looked _ _ _ _ _ _ no_bound c.requires c.loop-place.invariant c.in-Some.ensures.some).unknown

pub raise-requires-clause-term : goal.raise-requires-clause-term
raise-requires-clause-term c =
    rw c.deref_mut.ensures.value (looked _ _ _ _ _ _ no_bound c.requires c.loop-place.invariant c.in-Some.ensures.some).term

pub index-requires : goal.index-requires
index-requires c =
    let b : Bound = get_or c.args.bounds.now c.in-Some.place no_bound in
    let l : Looked c.args.bounds.now c.loop-place.widths.items c.in-Some.place b = looked _ _ _ _ _ _ no_bound c.requires c.loop-place.invariant c.in-Some.ensures.some in
    omega (arith, l.unknown, c.loop-place.invariant.long, c.in_ok-readers.ensures.long, c.in_ok-readers.readers.ok.0)

pub add_all-requires : goal.add_all-requires
add_all-requires c =
    let l = looked _ _ _ _ _ _ no_bound c.requires c.loop-place.invariant c.in-Some.ensures.some in
    readers_within _ _ _ _ _ _ _ _ c.loop-place.invariant c.in-Some.ensures.some l _ _ c.raise.new.widths c.loop-place.widths.ok.0 c.deref_mut.ensures.value c.raise.auto.widths c.in_ok-readers.ensures.long c.in_ok-readers.ensures.within c.index.result.now c.as_slice.result.now c.index.ensures c.as_slice.ensures.value

pub loop-place-preserved : goal.loop-place-preserved
loop-place-preserved c =
    let l = looked _ _ _ _ _ _ no_bound c.requires c.loop-place.invariant c.in-Some.ensures.some in
    (leaves_if_stays _ _ c.in_ok-readers.readers.items _ _ _ _ _ c.loop-place.invariant c.in-Some.ensures.some l _ _ c.raise.new.widths c.loop-place.widths.ok.0 c.deref_mut.ensures.value c.raise.auto.widths c.if-raise.ensures).solving

pub loop-place-smaller : goal.loop-place-smaller
loop-place-smaller c =
    let l = looked _ _ _ _ _ _ no_bound c.requires c.loop-place.invariant c.in-Some.ensures.some in
    (leaves_if_stays _ _ c.in_ok-readers.readers.items _ _ _ _ _ c.loop-place.invariant c.in-Some.ensures.some l _ _ c.raise.new.widths c.loop-place.widths.ok.0 c.deref_mut.ensures.value c.raise.auto.widths c.if-raise.ensures).fewer

pub loop-place-preserved-in-Continue-branch-4 : goal.loop-place-preserved-in-Continue-branch-4
loop-place-preserved-in-Continue-branch-4 c =
    let l = looked _ _ _ _ _ _ no_bound c.requires c.loop-place.invariant c.in-Some.ensures.some in
    (leaves_if_rises _ _ c.in_ok-readers.readers.items _ _ _ _ _ c.loop-place.invariant c.in-Some.ensures.some l _ _ c.raise.new.widths c.loop-place.widths.ok.0 c.deref_mut.ensures.value c.raise.auto.widths c.monotone.ensures c.in_ok-readers.ensures.long c.in_ok-readers.ensures.read c.index.result.now _ _ c.index.ensures c.as_slice.ensures.value c.if-raise.ensures c.in_ok-add_all.ensures).solving

pub loop-place-smaller-in-Continue-branch-4 : goal.loop-place-smaller-in-Continue-branch-4
loop-place-smaller-in-Continue-branch-4 c =
    let l = looked _ _ _ _ _ _ no_bound c.requires c.loop-place.invariant c.in-Some.ensures.some in
    (leaves_if_rises _ _ c.in_ok-readers.readers.items _ _ _ _ _ c.loop-place.invariant c.in-Some.ensures.some l _ _ c.raise.new.widths c.loop-place.widths.ok.0 c.deref_mut.ensures.value c.raise.auto.widths c.monotone.ensures c.in_ok-readers.ensures.long c.in_ok-readers.ensures.read c.index.result.now _ _ c.index.ensures c.as_slice.ensures.value c.if-raise.ensures c.in_ok-add_all.ensures).fewer

pub returns-clause-least : goal.returns-clause-least
returns-clause-least c = least _ _ _ _ c.loop-place.invariant c.in_default.ensures.none
