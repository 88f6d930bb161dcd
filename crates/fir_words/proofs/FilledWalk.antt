-- A walk over words, of a command which has no short names, leaves rows that have values each where those are wanted.
use Rattle.std.proofs.Common.{◌≡◌, ◌&&◌, ℕ, zero, suc, List, [], ◌∷◌, Bool, true, false, Option, Some, None, refl, subst, sym}
use Rattle.std.specs.Prelude.{drop, encode_utf8, fold, if◌then◌else◌, length, slice_get}
use Rattle.std.specs.Str.{bytes_eq, chars}
use Rattle.clap.specs.Words.{Row, Rule, Text}
use Rattle.clap.specs.Lexer.{long_of, short_of}
use Rattle.clap.specs.Walk.{Held, Names, Outcome, Step, Waiting, Walk, after_flag, after_step, arg_by_id, arg_by_index, arg_by_long, arg_by_short, bundle_met, bundle_step, flag_met, idle, is_pending, long_met, long_or_other, nothing_held, option, option_met, option_word, plain_word, positional, positional_held, pushed, reacted, rows_after, settled, settled_rows, short_or_plain, started, subcommand_met, subcommand_or_other, takes_several, takes_values, to_positional, used_by_id, values_or_missing, walk, walk_from, walked, walked_from, word_met}
use Rattle.clap.specs.Walk.{done, waits, plain, refused, next, trailing, subcommand, value}
use Rattle.fir_words.proofs.FilledRows.{Filled, HasSome, defaults_filled, has_more, same_id, used_filled}

unwanted : (wanted : Bool) (values : List Text) → wanted ≡ false → HasSome wanted values
unwanted wanted [] is = is
unwanted wanted (v ∷ vs) is = tt

-- what is found by its id has that id
abbrev IsNamed : Text → Option Rule → Type 0
IsNamed id None = Unit {0}
IsNamed id (Some a) = a.id ≡ id

found_named : (c : List Rule) (id : Text) → IsNamed id (arg_by_id c id)
found_named [] id = tt
found_named (a ∷ rest) id = go (bytes_eq a.id id) refl (found_named rest id)
  where
    go : (b : Bool) → bytes_eq a.id id ≡ b → IsNamed id (arg_by_id rest id) → IsNamed id (arg_by_id (a ∷ rest) id)
    go true is behind = rw is (same_id a.id id is)
    go false is behind = rw is behind

module _ (wanted : Text → Bool) where
  abbrev pub HasPending : Option (Text × List Text) → Type 0
  HasPending None = Unit {0}
  HasPending (Some p) = HasSome (wanted p.0) p.1

  abbrev pub IsFilled : Held → Type 0
  IsFilled h = Filled wanted h.rows × HasPending h.pending

  -- the long name alone: a flag has a value of its own, and an option has none yet
  abbrev pub IsAnswered : Option Rule → Type 0
  IsAnswered None = Unit {0}
  IsAnswered (Some a) = HasSome (wanted a.id) (if takes_values a then [] else a.missing)

  abbrev pub HasAnswers : List Rule → Type 0
  HasAnswers c = ((name : Text) → IsAnswered (arg_by_long c name)) × ((x : ℕ) → arg_by_short c x ≡ None)

  -- ---- one use

  given_values : (a : Rule) (values : List Text) → HasSome (wanted a.id) values → HasSome (wanted a.id) (values_or_missing a values)
  given_values a [] has = unwanted (wanted a.id) a.missing has
  given_values a (v ∷ vs) has = tt

  by_id_filled : (o : Option Rule) (id : Text) (values : List Text) (rows : List Row) → IsNamed id o → HasSome (wanted id) values → Filled wanted rows
      → Filled wanted (used_by_id o values rows)
  by_id_filled None id values rows named has f = f
  by_id_filled (Some a) id values rows named has f =
      used_filled wanted a values rows (given_values a values (subst (λ i. HasSome (wanted i) values) (sym named) has)) f

  pending_filled : (c : List Rule) (p : Option (Text × List Text)) (rows : List Row) → HasPending p → Filled wanted rows → Filled wanted (settled_rows c p rows)
  pending_filled c None rows has f = f
  pending_filled c (Some p) rows has f = by_id_filled (arg_by_id c p.0) p.0 p.1 rows (found_named c p.0) has f

  settled_filled : (c : List Rule) (h : Held) → IsFilled h → IsFilled (settled c h)
  settled_filled c h f = (pending_filled c h.pending h.rows f.1 f.0, tt)

  reacted_filled : (c : List Rule) (a : Rule) (values : List Text) (h : Held) → HasSome (wanted a.id) (values_or_missing a values) → IsFilled h
      → IsFilled (reacted c a values h)
  reacted_filled c a values h has f = (used_filled wanted a values (settled c h).rows has (settled_filled c h f).0, tt)

  pushed_filled : (id word : Text) (h : Held) → Filled wanted h.rows → IsFilled (pushed id word h)
  pushed_filled id word h f = (f, has_more (wanted (started id h.pending).0) (started id h.pending).1 word [])

  -- ---- one word

  flag_filled : (c : List Rule) (a : Rule) (given : Option Text) (h : Held) → HasSome (wanted a.id) a.missing → IsFilled h → IsFilled (flag_met c a given h).0
  flag_filled c a (Some v) h has f = f
  flag_filled c a None h has f = reacted_filled c a [] h has f

  option_filled : (c : List Rule) (a : Rule) (given : Option Text) (h : Held) → HasSome (wanted a.id) [] → IsFilled h → IsFilled (option_met c a given h).0
  option_filled c a (Some v) h has f = reacted_filled c a (v ∷ []) h tt f
  option_filled c a None h has f = ((settled_filled c h f).0, has)

  long_filled : (c : List Rule) (found : Option Rule) (given : Option Text) (h : Held) → IsAnswered found → IsFilled h
      → IsFilled (long_met c found given h).0
  long_filled c None given h answered f = f
  long_filled c (Some a) given h answered f = go (takes_values a) answered
    where
      go : (b : Bool) → HasSome (wanted a.id) (if b then [] else a.missing)
          → IsFilled (if b then option_met c a given h else flag_met c a given h).0
      go true has = option_filled c a given h has f
      go false has = flag_filled c a given h has f

  step_filled : (c : List Rule) → ((x : ℕ) → arg_by_short c x ≡ None) → (k : ℕ) (o : Option ℕ) (flags : Text) (skip : ℕ) (so_far : Outcome) (h : Held) → IsFilled h
      → ((flags : Text) (skip : ℕ) → IsFilled (bundle_met c k flags skip so_far h).0) → IsFilled (bundle_step c o flags skip so_far h (bundle_met c k)).0
  step_filled c none k None flags skip so_far h f rest = f
  step_filled c none k (Some x) flags zero so_far h f rest = rw (none x) f
  step_filled c none k (Some x) flags (suc skip) so_far h f rest = rest (drop (length (encode_utf8 x)) flags) skip

  bundle_filled : (c : List Rule) → ((x : ℕ) → arg_by_short c x ≡ None) → (k : ℕ) (flags : Text) (skip : ℕ) (so_far : Outcome) (h : Held) → IsFilled h
      → IsFilled (bundle_met c k flags skip so_far h).0
  unfolding bundle_met
  bundle_filled c none zero flags skip so_far h f = f
  bundle_filled c none (suc k) flags skip so_far h f =
      step_filled c none k (slice_get (chars flags) 0) flags skip so_far h f (λ flags skip. bundle_filled c none k flags skip so_far h f)

  option_word_filled : (o : Option Rule) (id word : Text) (h : Held) → IsFilled h → IsFilled (option_word o id word h).0
  option_word_filled None id word h f = f
  option_word_filled (Some a) id word h f = pushed_filled id word h f.0

  plain_filled : (c : List Rule) (waiting : Waiting) (word : Text) (h : Held) → IsFilled h → IsFilled (plain_word c waiting word h).0
  plain_filled c (option id) word h f = option_word_filled (arg_by_id c id) id word h f
  plain_filled c idle word h f = f
  plain_filled c positional word h f = f

  after_flag_filled : (c : List Rule) (waiting : Waiting) (word : Text) (h : Held) (o : Outcome) → IsFilled h → IsFilled (after_flag c waiting word h o).0
  after_flag_filled c waiting word h done f = f
  after_flag_filled c waiting word h (waits id) f = f
  after_flag_filled c waiting word h plain f = plain_filled c waiting word h f
  after_flag_filled c waiting word h refused f = plain_filled c waiting word h f

  short_filled : (c : List Rule) → HasAnswers c → (waiting : Waiting) (word : Text) (o : Option Text) (h : Held) → IsFilled h
      → IsFilled (short_or_plain c waiting word o h).0
  short_filled c answers waiting word None h f = plain_filled c waiting word h f
  short_filled c answers waiting word (Some letters) h f =
      after_flag_filled c waiting word _ _ (bundle_filled c answers.1 (length letters) letters h.skip plain (record h { skip = 0 }) f)

  long_or_other_filled : (c : List Rule) → HasAnswers c → (waiting : Waiting) (word : Text) (o : Option (Text × Option Text)) (h : Held) → IsFilled h
      → IsFilled (long_or_other c waiting word o h).0
  long_or_other_filled c answers waiting word (Some p) h f =
      after_flag_filled c waiting word _ _ (long_filled c (arg_by_long c p.0) p.1 h (answers.0 p.0) f)
  long_or_other_filled c answers waiting word None h f = short_filled c answers waiting word (short_of word) h f

  other_filled : (c : List Rule) → HasAnswers c → (o : Option Text) (waiting : Waiting) (position : ℕ) (word : Text) (h : Held) → IsFilled h
      → IsFilled (subcommand_or_other c o waiting position word h).0
  other_filled c answers (Some name) waiting position word h f = f
  other_filled c answers None waiting position word h f = go (bytes_eq word (45 ∷ 45 ∷ []))
    where
      go : (b : Bool) → IsFilled (if b then (h, trailing position) else long_or_other c waiting word (long_of word) h).0
      go true = f
      go false = long_or_other_filled c answers waiting word (long_of word) h f

  word_filled : (c : List Rule) → HasAnswers c → (names : Names) (is_trailing : Bool) (waiting : Waiting) (position : ℕ) (word : Text) (h : Held) → IsFilled h
      → IsFilled (word_met c names is_trailing waiting position word h).0
  word_filled c answers names true waiting position word h f = f
  word_filled c answers names false waiting position word h f = other_filled c answers (subcommand_met names waiting word) waiting position word h f

  positional_filled : (c : List Rule) (a : Rule) (word : Text) (h : Held) → IsFilled h → IsFilled (positional_held c a word h)
  positional_filled c a word h f = go (is_pending a h.pending && takes_several a)
    where
      go : (b : Bool) → IsFilled (pushed a.id word (if b then h else settled c h))
      go true = pushed_filled a.id word h f.0
      go false = pushed_filled a.id word (settled c h) (settled_filled c h f).0

  to_positional_filled : (c : List Rule) (o : Option Rule) (word : Text) (w : Walk) (h : Held) → IsFilled h → IsFilled (to_positional c o word w h).held
  to_positional_filled c None word w h f = f
  to_positional_filled c (Some a) word w h f = positional_filled c a word h f

  after_step_filled : (c : List Rule) (word : Text) (w : Walk) (h : Held) (s : Step) → IsFilled h → IsFilled (after_step c word w h s).held
  after_step_filled c word w h (next waiting) f = f
  after_step_filled c word w h (trailing position) f = f
  after_step_filled c word w h (subcommand name) f = f
  after_step_filled c word w h value f = to_positional_filled c (arg_by_index c w.position) word w h f

  from_filled : (c : List Rule) → HasAnswers c → (names : Names) (stopped : Option (Text × List Text)) (w : Walk) (word : Text) → IsFilled w.held
      → IsFilled (walked_from c names stopped w word).held
  from_filled c answers names (Some p) w word f = f
  from_filled c answers names None w word f =
      after_step_filled c word w _ _ (word_filled c answers names w.is_trailing w.waiting w.position word w.held f)

  walked_filled : (c : List Rule) → HasAnswers c → (names : Names) (w : Walk) (word : Text) → IsFilled w.held → IsFilled (walked c names w word).held
  unfolding walked
  walked_filled c answers names w word f = from_filled c answers names w.stopped w word f

  -- ---- all the words

  walk_filled : (c : List Rule) → HasAnswers c → (names : Names) (words : List Text) (w : Walk) → IsFilled w.held → IsFilled (fold (walked c names) w words).held
  walk_filled c answers names [] w f = f
  walk_filled c answers names (word ∷ rest) w f = walk_filled c answers names rest (walked c names w word) (walked_filled c answers names w word f)

  pub rows_filled : (c : List Rule) → HasAnswers c → (names : Names) (words : List Text) → Filled wanted (rows_after c names words)
  rows_filled c answers names words =
      let end = walk c names nothing_held words in
      defaults_filled wanted c (settled c end.held).rows (settled_filled c end.held (walk_filled c answers names words (walk_from nothing_held) (tt, tt))).0
