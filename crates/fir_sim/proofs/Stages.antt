-- The words of registers and pipes while the edges of a tick are taken: first the registers take theirs, then the pipes that take old words of arrays, and in the end
-- those that take new ones.
use Rattle.std.proofs.Common.{◌≡◌, ℕ, List, [], ◌∷◌, map, Bool, true, false, if◌then◌else◌, Option, Some, None, refl, sym, ap, ◌∙◌}
use Rattle.std.specs.Prelude.{slice_get, not}
use Rattle.std.specs.Bool.{beq}
use Rattle.fir_net.specs.declared.array.Pipe.{Pipe}
use Rattle.fir_net.specs.declared.leaf.Role.{Role}
use Rattle.fir_net.specs.declared.leaf.Role.TheVariants as role
use Rattle.fir_net.specs.declared.leaf.Leaf.{Leaf}
use Rattle.fir_net.specs.declared.net.FlatNet.{FlatNet}
use Rattle.fir_net.specs.working.Next.{next_by, next_of, next_word}
use Rattle.fir_tick.specs.working.PipePlans.{is_pipe, HasNoPipe}

-- which pipes have their words, by whether they take new ones
abbrev pub no_pipes : Bool → Bool
no_pipes is_new = false

abbrev pub old_pipes : Bool → Bool
old_pipes is_new = not is_new

abbrev pub all_pipes : Bool → Bool
all_pipes is_new = true

module _ (net : FlatNet) (env : ℕ → ℕ) (clock : ℕ → Option ℕ) (named state : List ℕ) where
  abbrev pub stage_by : (Bool → Bool) → ℕ → ℕ → Role → ℕ
  stage_by done width now (role.Register d) = next_by net env clock named state width now (role.Register d)
  stage_by done width now (role.Pipe q) = if done q.is_new then next_by net env clock named state width now (role.Pipe q) else now
  stage_by done width now _ = now

  abbrev pub stage_of : (Bool → Bool) → ℕ → Option Leaf → ℕ
  stage_of done now None = now
  stage_of done now (Some l) = stage_by done l.width now l.role

  abbrev pub stage : (Bool → Bool) → ℕ → ℕ
  stage done k = stage_of done (env k) (slice_get net.leaves k)

  -- in the end each has its next word
  last_by : (width now : ℕ) (r : Role) → stage_by all_pipes width now r ≡ next_by net env clock named state width now r
  last_by width now role.Input = refl
  last_by width now role.Clock = refl
  last_by width now (role.Output r) = refl
  last_by width now (role.Wire r) = refl
  last_by width now (role.Register d) = refl
  last_by width now (role.Reading r) = refl
  last_by width now (role.Pipe q) = refl
  last_by width now (role.ClockOutput c) = refl
  last_by width now (role.ClockWire c) = refl

  last_of : (now : ℕ) (o : Option Leaf) → stage_of all_pipes now o ≡ next_of net env clock named state now o
  last_of now None = refl
  last_of now (Some l) = last_by l.width now l.role

  pub last_words : (ks : List ℕ) → map (stage all_pipes) ks ≡ map (next_word net env clock named state) ks
  last_words [] = refl
  last_words (k ∷ ks) = let here = last_of (env k) (slice_get net.leaves k) in let rest = last_words ks in rw (here, rest) refl

  -- what is no such pipe stays
  kept_by : (before after : Bool → Bool) (is_new : Bool) → ((b : Bool) → beq b is_new ≡ false → before b ≡ after b) → (width now : ℕ) (r : Role) → is_pipe is_new r ≡ false → stage_by before width now r ≡ stage_by after width now r
  kept_by before after is_new same width now role.Input e = refl
  kept_by before after is_new same width now role.Clock e = refl
  kept_by before after is_new same width now (role.Output r) e = refl
  kept_by before after is_new same width now (role.Wire r) e = refl
  kept_by before after is_new same width now (role.Register d) e = refl
  kept_by before after is_new same width now (role.Reading r) e = refl
  kept_by before after is_new same width now (role.Pipe q) e = ap (λ (b : Bool). if b then next_by net env clock named state width now (role.Pipe q) else now) (same q.is_new e)
  kept_by before after is_new same width now (role.ClockOutput c) e = refl
  kept_by before after is_new same width now (role.ClockWire c) e = refl

  pub stage_kept : (before after : Bool → Bool) (is_new : Bool) → ((b : Bool) → beq b is_new ≡ false → before b ≡ after b) → (k : ℕ) → HasNoPipe net is_new k → stage before k ≡ stage after k
  stage_kept before after is_new same k h =
      ap (stage_of before (env k)) h.at ∙ kept_by before after is_new same h.leaf.width (env k) h.leaf.role h.other ∙ sym (ap (stage_of after (env k)) h.at)

  -- the word of a pipe before it takes one, and then
  pub pipe_waits : (done : Bool → Bool) (k : ℕ) (l : Leaf) (q : Pipe) → slice_get net.leaves k ≡ Some l → l.role ≡ role.Pipe q → done q.is_new ≡ false → stage done k ≡ env k
  pipe_waits done k l q at kind waits =
      ap (stage_of done (env k)) at ∙ ap (stage_by done l.width (env k)) kind ∙ ap (λ (b : Bool). if b then next_by net env clock named state l.width (env k) (role.Pipe q) else env k) waits

  pub pipe_has : (done : Bool → Bool) (k : ℕ) (l : Leaf) (q : Pipe) → slice_get net.leaves k ≡ Some l → l.role ≡ role.Pipe q → done q.is_new ≡ true
      → stage done k ≡ next_by net env clock named state l.width (env k) (role.Pipe q)
  pipe_has done k l q at kind has =
      ap (stage_of done (env k)) at ∙ ap (stage_by done l.width (env k)) kind ∙ ap (λ (b : Bool). if b then next_by net env clock named state l.width (env k) (role.Pipe q) else env k) has
