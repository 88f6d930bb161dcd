-- The nets of what is read of an array, and those of a write: each is sound where its operands are, and reads only what is known before it.
use Rattle.std.proofs.Common.{◌≡◌, ℕ, ◌^◌, ◌<◌, ◌≤◌, List, ◌∷◌, Bool, true, false, nat_le, if◌then◌else◌, refl, sym, ◌∙◌, inl, inr, arith}
use Rattle.std.specs.List.{AllByRecursion}
use Rattle.std.proofs.lemmas.Bool.{leb-false}
use Rattle.std.proofs.lemmas.Nat.{pow_pos}
use Rattle.fir_base.specs.Lists.{In}
use Rattle.fir_base.proofs.Each.{each_more}
use Rattle.ver_ast.specs.Atoms.{AtomTree, constant, net}
use Rattle.ver_ast.specs.declared.tree.Rhs.TheVariants as rhs
use Rattle.ver_ast.specs.Nets.{SizedNet, Variable, width_among}
use Rattle.ver_ast.specs.SoundSides.{HasWidth, IsSoundSide}
use Rattle.ver_build.specs.declared.held.Held.{Held}
use Rattle.ver_build.specs.declared.places.Guard.{Guard}
use Rattle.ver_build.specs.working.ArrayTexts.{always_within, and_rhs, direct_inners, guard_inners, guarded_inners, or_zero, reading_inners, within_rhs}
use Rattle.ver_build.specs.working.Operands.{atom_at}
use Rattle.ver_build.specs.working.Places.{source_name}
use Rattle.ver_build.specs.working.Texts.{helper}
use Rattle.ver_build.proofs.Fitted.{zero_env}
use Rattle.ver_build.proofs.OperandAtoms.{constant_gives, net_gives}
use Rattle.ver_build.proofs.OperandNames.{atom_known, side_names}
use Rattle.ver_build.proofs.Standing.{DeclaresInners, IsKnown, IsSoundAmong, ReadsInTurn}

pub past_end : (a b : ℕ) → nat_le a b ≡ false → b < a
past_end a b e = leb-false a b e

more : (known : List (List ℕ)) (x : List ℕ) (h : Held) → IsKnown known h → IsKnown (x ∷ known) h
more known x h is = each_more (source_name h.source) known (x ∷ known) (λ y i. inr i) is

module _ (ns : List SizedNet) (ks : List Variable) where
  pub net_wide : (name : List ℕ) (w : ℕ) → 1 ≤ w → width_among ns name ≡ w → HasWidth ns w (net name)
  net_wide name w some declared = (net_gives ns zero_env name w some declared).fits

  constant_wide : (w n : ℕ) → 1 ≤ w → w ≤ 128 → n < 2 ^ w → HasWidth ns w (constant w n)
  constant_wide w n some narrow below = (constant_gives ns zero_env w n some narrow below).fits

  or_zero_sound : (u : ℕ) (c v : AtomTree) → 1 ≤ u → u ≤ 128 → HasWidth ns 1 c → HasWidth ns u v → IsSoundSide ns ks u (or_zero u c v)
  or_zero_sound u c v some narrow is_c is_v =
      let none = constant_wide u 0 some narrow (pow_pos u) in
      record { operands = (is_c.operand, (is_v.operand, (none.operand, tt))); widths = (is_c.wide, is_v.wide, none.wide) }

  within_sound : (w words : ℕ) (at : Held) → 1 ≤ w → w ≤ 128 → words < 2 ^ w → HasWidth ns w (atom_at w at) → IsSoundSide ns ks 1 (within_rhs w words at)
  within_sound w words at some narrow less is =
      let end = constant_wide w words some narrow less in
      record { operands = (is.operand, (end.operand, tt)); widths = (refl, is.wide ∙ sym end.wide) }

  and_sound : (name : List ℕ) (under : Held) → width_among ns name ≡ 1 → HasWidth ns 1 (atom_at 1 under) → IsSoundSide ns ks 1 (and_rhs name under)
  and_sound name under declared is =
      let first = net_wide name 1 (omega arith) declared in
      record { operands = (first.operand, (is.operand, tt)); widths = (first.wide, is.wide) }

  word_sound : (array : List ℕ) (u w : ℕ) (a : AtomTree) (k : Variable) → In ks k → k.name ≡ array → k.width ≡ u → HasWidth ns w a
      → IsSoundSide ns ks u (rhs.Word array a)
  word_sound array u w a k m named wide is = record { operands = (is.operand, tt); widths = (k, m, named, wide) }

  module _ (w : ℕ) (at under : Held) (some_w : 1 ≤ w) (narrow_w : w ≤ 128) (is_at : HasWidth ns w (atom_at w at)) (is_under : HasWidth ns 1 (atom_at 1 under)) where
    pub reading_sound : (array : List ℕ) (words u : ℕ) (helpers : List (List ℕ)) (name : List ℕ) (k : Variable) → In ks k → k.name ≡ array → k.width ≡ u
        → 1 ≤ u → u ≤ 128 → DeclaresInners ns (reading_inners array words u w at under helpers name)
        → AllByRecursion (IsSoundAmong ns ks) (reading_inners array words u w at under helpers name)
    reading_sound array words u helpers name k m named wide some narrow declares = by (always_within w words) refl declares
      where
        by : (b : Bool) → always_within w words ≡ b
            → DeclaresInners ns (if b then direct_inners array u w at under helpers name else guarded_inners array words u w at under helpers name)
            → AllByRecursion (IsSoundAmong ns ks) (if b then direct_inners array u w at under helpers name else guarded_inners array words u w at under helpers name)
        by true s d = (
          record { side = word_sound array u w (atom_at w at) k m named wide is_at; some = some; narrow = narrow },
          (
            record {
              side = or_zero_sound u (atom_at 1 under) (net (helper helpers 0)) some narrow is_under (net_wide (helper helpers 0) u some d.0);
              some = some;
              narrow = narrow;
            },
            tt,
          ),
        )
        by false s d =
            let less = past_end (2 ^ w) words s in
            let allowed = net_wide (helper helpers 1) 1 (omega arith) d.1.0 in (
              record { side = within_sound w words at some_w narrow_w less is_at; some = omega arith; narrow = omega arith },
              (
                record { side = and_sound (helper helpers 0) under d.0 is_under; some = omega arith; narrow = omega arith },
                (
                  record { side = or_zero_sound w (net (helper helpers 1)) (atom_at w at) some_w narrow_w allowed is_at; some = some_w; narrow = narrow_w },
                  (
                    record {
                      side = word_sound array u w (net (helper helpers 2)) k m named wide (net_wide (helper helpers 2) w some_w d.1.1.0);
                      some = some;
                      narrow = narrow;
                    },
                    (
                      record {
                        side = or_zero_sound u (net (helper helpers 1)) (net (helper helpers 3)) some narrow allowed (net_wide (helper helpers 3) u some d.1.1.1.0);
                        some = some;
                        narrow = narrow;
                      },
                      tt,
                    ),
                  ),
                ),
              ),
            )

    pub guard_sound : (words : ℕ) (g : Guard) → words < 2 ^ w → DeclaresInners ns (guard_inners words w at under g)
        → AllByRecursion (IsSoundAmong ns ks) (guard_inners words w at under g)
    guard_sound words g less d = (
      record { side = within_sound w words at some_w narrow_w less is_at; some = omega arith; narrow = omega arith },
      (record { side = and_sound g.within under d.0 is_under; some = omega arith; narrow = omega arith }, tt),
    )

module _ (w : ℕ) (at under : Held) (known : List (List ℕ)) (is_at : IsKnown known at) (is_under : IsKnown known under) where
  pub reading_reads : (array : List ℕ) (words u : ℕ) (helpers : List (List ℕ)) (name : List ℕ)
      → ReadsInTurn known (reading_inners array words u w at under helpers name)
  reading_reads array words u helpers name = by (always_within w words)
    where
      by : (b : Bool) → ReadsInTurn known (if b then direct_inners array u w at under helpers name else guarded_inners array words u w at under helpers name)
      by true =
          let h = helper helpers 0 in (
            side_names known (rhs.Word array (atom_at w at)) (atom_known known w at is_at, tt),
            (
              side_names (h ∷ known) (or_zero u (atom_at 1 under) (net h))
                  (atom_known (h ∷ known) 1 under (more known h under is_under), ((inl refl, tt), (tt, tt))),
              tt,
            ),
          )
      by false =
          let h = helper helpers 0 in
          let g = helper helpers 1 in
          let k = helper helpers 2 in
          let v = helper helpers 3 in
          let second = h ∷ known in
          let third = g ∷ second in
          let fourth = k ∷ third in
          let fifth = v ∷ fourth in (
            side_names known (within_rhs w words at) (atom_known known w at is_at, (tt, tt)),
            (
              side_names second (and_rhs h under) ((inl refl, tt), (atom_known second 1 under (more known h under is_under), tt)),
              (
                side_names third (or_zero w (net g) (atom_at w at))
                    ((inl refl, tt), (atom_known third w at (more second g at (more known h at is_at)), (tt, tt))),
                (
                  side_names fourth (rhs.Word array (net k)) ((inl refl, tt), tt),
                  (side_names fifth (or_zero u (net g) (net v)) ((inr (inr (inl refl)), tt), ((inl refl, tt), (tt, tt))), tt),
                ),
              ),
            ),
          )

  pub guard_reads : (words : ℕ) (g : Guard) → ReadsInTurn known (guard_inners words w at under g)
  guard_reads words g = (
    side_names known (within_rhs w words at) (atom_known known w at is_at, (tt, tt)),
    (
      side_names (g.within ∷ known) (and_rhs g.within under)
          ((inl refl, tt), (atom_known (g.within ∷ known) 1 under (more known g.within under is_under), tt)),
      tt,
    ),
  )
