-- The parser takes exactly the words that say items, and finds what the items give.
use Rattle.std.proofs.Common.{◌≡◌, ◌≢◌, codes, ◌+◌, ◌≤◌, Bool, true, false, cond, List, [], ◌∷◌, ◌++◌, map, length, Option, Some, None, is_some, refl, sym, ap, subst, ◌∙◌, arith, true≢false, append_assoc, append-nil, length-append}
use Rattle.std.specs.List.{fold}
use Rattle.std.specs.Bool.{IsTrue}
use Rattle.std.specs.Str.{bytes_eq, IsUtf8}
use Rattle.std.proofs.lemmas.Grind.{flat_map-append}
use Rattle.clap.specs.Lexer.{long_of, short_of}
use Rattle.clap.specs.Walk.{Row, Rule, Held, Walk, Waiting, idle, option, positional, Text, walked, settled, reacted, used, has_row}
use Rattle.clap.specs.Faults.{turn_fault, settle_fault, walk_fault}
use Rattle.clap.specs.Kinds.{Kinds, or_else}
use Rattle.clap.specs.declared.error.kind.ErrorKind.TheVariants.{InvalidValue}
use Rattle.hy_base.proofs.Truths.{same-bytes, bytes-themselves}
use Rattle.hy_formula.specs.Quantifiers.{Each}
use Rattle.hy_words.specs.Words.{Item, file, flag, Says, nothing, behind_dashes, a_file, a_flag, an_option, joined, has, dashed, is_bare, Syntax, given_in, item_gives}
use Rattle.hy_words.specs.Words.{option as given}
use Rattle.hy_words.specs.Parsers.{files_name}
use Rattle.hy_words.proofs.Splitting.{IsSplit, long_word, not_dashes, bare_word, short_word, other_word, first_char}
use Rattle.hy_words.proofs.Walking as w
use Rattle.hy_words.proofs.Walking.{built_flag, built_option, rules_for, shape_for, stands, calm, some-none}
use Rattle.hy_words.proofs.Lookups.{row_there}
use Rattle.hy_words.proofs.Holding.{held, Holds, named-more, file-more}

pub or-empty : (a b : Kinds) → or_else a b ≡ [] → (a ≡ []) × (b ≡ [])
or-empty [] b e = (refl, e)
or-empty (k ∷ a) b e = absurd (some-none e)

pub or-nothing : (a b : Kinds) → a ≡ [] → b ≡ [] → or_else a b ≡ []
or-nothing a b e f = rw e f

-- ---- the names of flags and options

module _ (syntax : Syntax) where
  abbrev pub flags : List Text
  flags = syntax.flags

  abbrev pub options : List Text
  options = syntax.options

  abbrev pub rules : List Rule
  rules = rules_for flags options

  -- What has to hold of the names: flags and options differ, none is that of files, and each stands whole behind dashes.
  pub record IsFine : Type 0 where
    pub apart : (name : Text) → has options name ≡ true → has flags name ≡ false
    pub free : has flags files_name ≡ false
    pub clear : has options files_name ≡ false
    pub flag_alone : (name : Text) → has flags name ≡ true → long_of (dashed name) ≡ Some (name, None)
    pub option_alone : (name : Text) → has options name ≡ true → long_of (dashed name) ≡ Some (name, None)
    pub option_joined : (name value : Text) → has options name ≡ true → long_of (dashed (name ++ 61 ∷ value)) ≡ Some (name, Some value)

  -- ---- from a place in the words to their end

  abbrev pub end_of : Walk → List Text → Held
  end_of walk words = (fold (walked rules []) walk words).held

  abbrev pub rest_fault : Walk → List Text → Kinds
  rest_fault walk words = or_else (walk_fault (shape_for rules) [] walk words) (settle_fault rules false (end_of walk words))

  rest-split : (walk : Walk) (word : Text) (words : List Text) → rest_fault walk (word ∷ words) ≡ []
      → (turn_fault (shape_for rules) [] walk word ≡ []) × (rest_fault (walked rules [] walk word) words ≡ [])
  unfolding walk_fault
  rest-split walk word words e =
      let (all, last) = or-empty _ _ e in
      let (turn, behind) = or-empty _ _ all in
      (turn, or-nothing _ _ behind last)

  rest-joined : (walk : Walk) (word : Text) (words : List Text) → turn_fault (shape_for rules) [] walk word ≡ [] → rest_fault (walked rules [] walk word) words ≡ []
      → rest_fault walk (word ∷ words) ≡ []
  unfolding walk_fault
  rest-joined walk word words turn rest =
      let (behind, last) = or-empty _ _ rest in
      or-nothing _ _ (or-nothing _ _ turn behind) last

  -- ---- what a walk comes to

  -- The rows at the end of the words hold the items.
  abbrev pub Ends : Walk → List Text → List Item → Type 0
  Ends walk words items = Holds (settled rules (end_of walk words)).rows items

  -- where what waits is used without a fault, the rows then hold the items
  abbrev pub Will : Held → List Item → Type 0
  Will h items = settle_fault rules false h ≡ [] → Holds (settled rules h).rows items

  files-apart : IsFine → (name : Text) (names : List Text) → has names files_name ≡ false → has names name ≡ true → bytes_eq files_name name ≡ false
  files-apart fine name names gone there = by (bytes_eq files_name name) refl
    where
      by : (b : Bool) → bytes_eq files_name name ≡ b → b ≡ false
      by false e = refl
      by true e = absurd (true≢false (sym there ∙ ap (has names) (sym (same-bytes files_name name e)) ∙ gone))

  -- one more name of a file waits
  file_will : IsFine → (h : Held) (word : Text) (items : List Item) → Holds (settled rules h).rows items
      → Will (record (settled rules h) { pending = Some (files_name, word ∷ []) }) (items ++ file word ∷ [])
  file_will fine h word items holds e =
      let P : List Row → Type 0 = λ rows. Holds rows (items ++ file word ∷ []) in
      subst P (sym (w.files_settled flags options word (settled rules h).rows h.skip fine.free fine.clear))
      (file-more (settled rules h).rows items holds _ _ word)

  trailing_sound : IsFine → (words : List Text) (h : Held) (waiting : Waiting) (items : List Item) → Will h items
      → rest_fault (stands h waiting true) words ≡ [] → Ends (stands h waiting true) words (items ++ map file words)
  unfolding walk_fault
  trailing_sound fine [] h waiting items will e = subst (λ xs. Holds (settled rules h).rows xs) (sym (append-nil items)) (will e)
  trailing_sound fine (word ∷ words) h waiting items will e =
      let (turn, rest) = rest-split (stands h waiting true) word words e in
      let settles : settle_fault rules false h ≡ [] = sym (w.trailing_turn flags options h waiting word) ∙ turn in
      let next = w.trailing_next flags options h waiting word in
      let P : Walk → Type 0 = λ walk. rest_fault walk words ≡ [] in
      let Q : Walk → Type 0 = λ walk. Ends walk words (items ++ map file (word ∷ words)) in
      subst Q (sym next)
      (subst (λ xs. Ends (stands (record (settled rules h) { pending = Some (files_name, word ∷ []) }) positional true) words xs)
      (append_assoc items (file word ∷ []) (map file words))
      (trailing_sound fine words _ positional (items ++ file word ∷ []) (file_will fine h word items (will settles)) (subst P next rest)))

  trailing_complete : IsFine → (words : List Text) (h : Held) (waiting : Waiting) (items : List Item) → settle_fault rules false h ≡ [] → Holds (settled rules h).rows items
      → (rest_fault (stands h waiting true) words ≡ []) × Ends (stands h waiting true) words (items ++ map file words)
  unfolding walk_fault
  trailing_complete fine [] h waiting items settles holds = (settles, subst (λ xs. Holds (settled rules h).rows xs) (sym (append-nil items)) holds)
  trailing_complete fine (word ∷ words) h waiting items settles holds =
      let next = w.trailing_next flags options h waiting word in
      let later = record (settled rules h) { pending = Some (files_name, word ∷ []) } in
      let done : settle_fault rules false later ≡ [] = w.files_settles flags options word (settled rules h).rows h.skip fine.free fine.clear in
      let (rest, ends) = trailing_complete fine words later positional (items ++ file word ∷ []) done (file_will fine h word items holds done) in
      let P : Walk → Type 0 = λ walk. rest_fault walk words ≡ [] in
      let Q : Walk → Type 0 = λ walk. Ends walk words (items ++ map file (word ∷ words)) in (
        rest-joined (stands h waiting true) word words (w.trailing_turn flags options h waiting word ∙ settles) (subst P (sym next) rest),
        subst Q (sym next) (subst (λ xs. Ends (stands later positional true) words xs) (append_assoc items (file word ∷ []) (map file words)) ends),
      )

  -- ---- words that the parser takes say items

  abbrev pub Ready : Held → Waiting → List Item → Type 0
  Ready h idle items = (h.skip ≡ 0) × Will h items
  Ready h positional items = (h.skip ≡ 0) × Will h items
  Ready h (option name) items = (h.skip ≡ 0) × (has options name ≡ true) × (h.pending ≡ Some (name, [])) × Holds h.rows items

  abbrev pub Reads : Waiting → List Text → List Item → Type 0
  Reads idle words ys = Says syntax words ys
  Reads positional words ys = Says syntax words ys
  Reads (option name) words ys = Says syntax (dashed name ∷ words) ys

  abbrev pub Comes : Held → Waiting → List Text → List Item → Type 0
  Comes h waiting words items = (ys : List Item) × Reads waiting words ys × Ends (stands h waiting false) words (items ++ ys)

  -- what comes of all later words is sound
  abbrev pub Later : List Text → Type 0
  Later words = (h : Held) (waiting : Waiting) (items : List Item) → Ready h waiting items → rest_fault (stands h waiting false) words ≡ [] → Comes h waiting words items

  abbrev Says-next : Held → Waiting → Text → List Text → List Item → Type 0
  Says-next h waiting word words items = (ys : List Item) × Says syntax (word ∷ words) ys × Ends (stands h waiting false) (word ∷ words) (items ++ ys)

  waiting_fails : IsFine → (h : Held) (name : Text) → has options name ≡ true → h.pending ≡ Some (name, []) → settle_fault rules false h ≢ []
  waiting_fails fine h name there pending e =
      let is : settle_fault rules false h ≡ InvalidValue ∷ [] = rw (pending, w.id_option flags options name (fine.apart name there) there) refl in
      some-none (sym is ∙ e)

  -- Once a walk is at a place where it has read an item, the rest says the other items.
  module _ (h : Held) (waiting : Waiting) (word : Text) (words : List Text) (items : List Item) (i : Item) (next : Held) (after : Waiting)
      (goes : walked rules [] (stands h waiting false) word ≡ stands next after false) where
    ends-next : (ys : List Item) → Ends (stands next after false) words ((items ++ i ∷ []) ++ ys) → Ends (stands h waiting false) (word ∷ words) (items ++ i ∷ ys)
    ends-next ys ends =
        let P : Walk → Type 0 = λ walk. Ends walk words (items ++ i ∷ ys) in
        subst P (sym goes) (subst (λ xs. Ends (stands next after false) words xs) (append_assoc items (i ∷ []) ys) ends)

  flag_will : IsFine → (h : Held) (name : Text) (items : List Item) → has flags name ≡ true → Holds (settled rules h).rows items → has_row name (settled rules h).rows ≡ false
      → Holds (reacted rules (built_flag name) [] h).rows (items ++ flag name ∷ [])
  flag_will fine h name items there holds new =
      named-more (settled rules h).rows items holds _ _ (codes "true") name (flag name) (λ id. refl) refl (files-apart fine name flags fine.free there) new

  option_will : IsFine → (rows : List Row) (name v : Text) (items : List Item) → has options name ≡ true → Holds rows items → has_row name rows ≡ false
      → Holds (used (built_option name) (v ∷ []) rows) (items ++ given name v ∷ [])
  option_will fine rows name v items there holds new =
      named-more rows items holds _ _ v name (given name v) (λ id. refl) refl (files-apart fine name options fine.clear there) new

  module _ (fine : IsFine) (words : List Text) (later : Later words) (h : Held) (items : List Item) (word : Text) where
    -- a long word, where no option waits
    long_sound : (waiting : Waiting) → h.skip ≡ 0 → Will h items → (name : Text) (value : Option Text) → long_of word ≡ Some (name, value)
        → rest_fault (stands h waiting false) (word ∷ words) ≡ [] → Says-next h waiting word words items
    long_sound waiting skip will name value long e =
        let (turn, rest) = rest-split (stands h waiting false) word words e in
        let other = not_dashes word (name, value) long in
        let (text, spelled, split) = long_word word name value long in
        by (has flags name) (has options name) value refl refl refl turn rest other text spelled split
      where
        by : (f o : Bool) (v : Option Text) → has flags name ≡ f → has options name ≡ o → value ≡ v → turn_fault (shape_for rules) [] (stands h waiting false) word ≡ []
            → rest_fault (walked rules [] (stands h waiting false) word) words ≡ [] → bytes_eq word (45 ∷ 45 ∷ []) ≡ false
            → (text : Text) → word ≡ dashed text → IsSplit text name value → Says-next h waiting word words items
        by true o None ef eo ev turn rest other text spelled split =
            let (settles, uses) = or-empty _ _ (or-empty _ _ (sym (w.flag_turn flags options h waiting word name value long other ef ev) ∙ turn)).0 in
            let new = w.flag_once flags options name (settled rules h).rows uses in
            let next = w.flag_next flags options h waiting word name value long other ef ev in
            let P : Walk → Type 0 = λ walk. rest_fault walk words ≡ [] in
            let (ys, says, ends) = later (reacted rules (built_flag name) [] h) idle (items ++ flag name ∷ [])
            (skip, λ done. flag_will fine h name items ef (will settles) new) (subst P next rest) in
            let Q : Text → Type 0 = λ word. Says syntax (word ∷ words) (flag name ∷ ys) in
            let R : Option Text → Type 0 = λ v. IsSplit text name v in
            let same : text ≡ name = subst R ev split in
            (flag name ∷ ys, subst Q (sym (spelled ∙ ap dashed same)) (a_flag name words ys ef says), ends-next h waiting word words items (flag name) _ idle next ys ends)
        by true o (Some v) ef eo ev turn rest other text spelled split = absurd (w.flag_valued flags options h waiting word name value long other ef v ev turn)
        by false true None ef eo ev turn rest other text spelled split =
            let (settles, nil) = or-empty _ _ (sym (w.option_turn flags options h waiting word name value long other ef eo ev) ∙ turn) in
            let next = w.option_next flags options h waiting word name value long other ef eo ev in
            let P : Walk → Type 0 = λ walk. rest_fault walk words ≡ [] in
            let (ys, says, ends) = later (record (settled rules h) { pending = Some (name, []) }) (option name) items (skip, eo, refl, will settles) (subst P next rest) in
            let Q : Text → Type 0 = λ word. Says syntax (word ∷ words) ys in
            let R : Option Text → Type 0 = λ v. IsSplit text name v in
            let S : Walk → Type 0 = λ walk. Ends walk words (items ++ ys) in
            let same : text ≡ name = subst R ev split in
            (ys, subst Q (sym (spelled ∙ ap dashed same)) says, subst S (sym next) ends)
        by false true (Some v) ef eo ev turn rest other text spelled split =
            let (settles, uses) = or-empty _ _ (or-empty _ _ (sym (w.valued_turn flags options h waiting word name value long other ef eo v ev) ∙ turn)).0 in
            let new = w.option_once flags options name v (settled rules h).rows uses in
            let next = w.valued_next flags options h waiting word name value long other ef eo v ev in
            let P : Walk → Type 0 = λ walk. rest_fault walk words ≡ [] in
            let (ys, says, ends) = later (reacted rules (built_option name) (v ∷ []) h) idle (items ++ given name v ∷ [])
            (skip, λ done. option_will fine (settled rules h).rows name v items eo (will settles) new) (subst P next rest) in
            let Q : Text → Type 0 = λ word. Says syntax (word ∷ words) (given name v ∷ ys) in
            let R : Option Text → Type 0 = λ v. IsSplit text name v in
            let same : text ≡ name ++ 61 ∷ v = subst R ev split in
            (given name v ∷ ys, subst Q (sym (spelled ∙ ap dashed same)) (joined name v words ys eo says), ends-next h waiting word words items (given name v) _ idle next ys ends)
        by false false v ef eo ev turn rest other text spelled split = absurd (w.unknown_turn flags options h waiting word name value long other ef eo turn)

    -- a bare word, where no option waits
    bare_sound : (waiting : Waiting) → calm waiting → h.skip ≡ 0 → Will h items → long_of word ≡ None → short_of word ≡ None → bytes_eq word (45 ∷ 45 ∷ []) ≡ false
        → rest_fault (stands h waiting false) (word ∷ words) ≡ [] → Says-next h waiting word words items
    bare_sound waiting quiet skip will long short other e =
        let (turn, rest) = rest-split (stands h waiting false) word words e in
        let settles : settle_fault rules false h ≡ [] = sym (w.bare_turn flags options h word long short other waiting quiet) ∙ turn in
        let next = w.bare_next flags options h word long short other waiting quiet in
        let P : Walk → Type 0 = λ walk. rest_fault walk words ≡ [] in
        let (ys, says, ends) = later (record (settled rules h) { pending = Some (files_name, word ∷ []) }) positional (items ++ file word ∷ [])
        (skip, file_will fine h word items (will settles)) (subst P next rest) in
        (file word ∷ ys, a_file word words ys (other_word word long short other) says, ends-next h waiting word words items (file word) _ positional next ys ends)

    -- the value of an option
    value_sound : (name : Text) → h.skip ≡ 0 → has options name ≡ true → h.pending ≡ Some (name, []) → Holds h.rows items → long_of word ≡ None → short_of word ≡ None
        → bytes_eq word (45 ∷ 45 ∷ []) ≡ false → rest_fault (stands h (option name) false) (word ∷ words) ≡ [] → Comes h (option name) (word ∷ words) items
    value_sound name skip there pending holds long short other e =
        let (turn, rest) = rest-split (stands h (option name) false) word words e in
        let gone = fine.apart name there in
        let next = w.value_next flags options h word long short other name gone there pending in
        let P : Walk → Type 0 = λ walk. rest_fault walk words ≡ [] in
        let waits = record h { pending = Some (name, word ∷ []) } in
        let will : Will waits (items ++ given name word ∷ []) = λ done.
        let new = w.option_once flags options name word h.rows (sym (w.option_settles flags options name (word ∷ []) h.rows h.skip gone there) ∙ done) in
        let R : List Row → Type 0 = λ rows. Holds rows (items ++ given name word ∷ []) in
        subst R (sym (w.option_settled flags options name (word ∷ []) h.rows h.skip gone there)) (option_will fine h.rows name word items there holds new) in
        let (ys, says, ends) = later waits idle (items ++ given name word ∷ []) (skip, will) (subst P next rest) in
        (given name word ∷ ys, an_option name word words ys there says, ends-next h (option name) word words items (given name word) _ idle next ys ends)

  -- Each later word, and the end, uses what waits.
  trailing_settles : (words : List Text) (h : Held) (waiting : Waiting) → rest_fault (stands h waiting true) words ≡ [] → settle_fault rules false h ≡ []
  unfolding walk_fault
  trailing_settles [] h waiting e = e
  trailing_settles (word ∷ words) h waiting e = sym (w.trailing_turn flags options h waiting word) ∙ (rest-split (stands h waiting true) word words e).0

  long_settles : (h : Held) (waiting : Waiting) (word name : Text) (value : Option Text) → long_of word ≡ Some (name, value) → bytes_eq word (45 ∷ 45 ∷ []) ≡ false
      → turn_fault (shape_for rules) [] (stands h waiting false) word ≡ [] → settle_fault rules false h ≡ []
  long_settles h waiting word name value long other turn = by (has flags name) (has options name) value refl refl refl
    where
      by : (f o : Bool) (v : Option Text) → has flags name ≡ f → has options name ≡ o → value ≡ v → settle_fault rules false h ≡ []
      by true o None ef eo ev = (or-empty _ _ (or-empty _ _ (sym (w.flag_turn flags options h waiting word name value long other ef ev) ∙ turn)).0).0
      by true o (Some v) ef eo ev = absurd (w.flag_valued flags options h waiting word name value long other ef v ev turn)
      by false true None ef eo ev = (or-empty _ _ (sym (w.option_turn flags options h waiting word name value long other ef eo ev) ∙ turn)).0
      by false true (Some v) ef eo ev = (or-empty _ _ (or-empty _ _ (sym (w.valued_turn flags options h waiting word name value long other ef eo v ev) ∙ turn)).0).0
      by false false v ef eo ev = absurd (w.unknown_turn flags options h waiting word name value long other ef eo turn)

  -- ---- a word, whatever it is

  -- A word where an option waits for its value is that value.
  value_here : IsFine → (words : List Text) → Later words → (h : Held) (items : List Item) (word name : Text) → IsUtf8 word → h.skip ≡ 0 → has options name ≡ true
      → h.pending ≡ Some (name, []) → Holds h.rows items → rest_fault (stands h (option name) false) (word ∷ words) ≡ [] → Comes h (option name) (word ∷ words) items
  value_here fine words later h items word name text skip there pending holds e =
      by (bytes_eq word (45 ∷ 45 ∷ [])) (long_of word) (short_of word) refl refl refl
    where
      fails : settle_fault rules false h ≡ [] → Comes h (option name) (word ∷ words) items
      fails done = absurd (waiting_fails fine h name there pending done)

      by : (d : Bool) (l : Option (Text × Option Text)) (s : Option Text) → bytes_eq word (45 ∷ 45 ∷ []) ≡ d → long_of word ≡ l → short_of word ≡ s
          → Comes h (option name) (word ∷ words) items
      by true l s ed el es =
          let (turn, rest) = rest-split (stands h (option name) false) word words e in
          let P : Walk → Type 0 = λ walk. rest_fault walk words ≡ [] in
          fails (trailing_settles words h (option name) (subst P (w.dashes_next flags options h (option name) word ed) rest))
      by false (Some (other, v)) s ed el es =
          let (turn, rest) = rest-split (stands h (option name) false) word words e in
          fails (long_settles h (option name) word other v el ed turn)
      by false None (Some cs) ed el es =
          let (turn, rest) = rest-split (stands h (option name) false) word words e in
          let (b, bs, spelled, same) = short_word word cs es in
          let (x, first) = first_char b bs (subst IsUtf8 spelled text) in
          absurd (w.short_turn flags options h (option name) word b bs x el (es ∙ ap (λ c. Some c) same) ed first skip turn)
      by false None None ed el es = value_sound fine words later h items word name skip there pending holds el es ed e

  word_here : IsFine → (words : List Text) → Later words → (h : Held) (items : List Item) (word : Text) (waiting : Waiting) → calm waiting → IsUtf8 word → h.skip ≡ 0
      → Will h items → rest_fault (stands h waiting false) (word ∷ words) ≡ [] → Says-next h waiting word words items
  word_here fine words later h items word waiting quiet text skip will e =
      by (bytes_eq word (45 ∷ 45 ∷ [])) (long_of word) (short_of word) refl refl refl
    where
      by : (d : Bool) (l : Option (Text × Option Text)) (s : Option Text) → bytes_eq word (45 ∷ 45 ∷ []) ≡ d → long_of word ≡ l → short_of word ≡ s
          → Says-next h waiting word words items
      by true l s ed el es =
          let (turn, rest) = rest-split (stands h waiting false) word words e in
          let next = w.dashes_next flags options h waiting word ed in
          let P : Walk → Type 0 = λ walk. rest_fault walk words ≡ [] in
          let Q : Walk → Type 0 = λ walk. Ends walk words (items ++ map file words) in
          let R : Text → Type 0 = λ word. Says syntax (word ∷ words) (map file words) in (
            map file words,
            subst R (sym (same-bytes word (45 ∷ 45 ∷ []) ed)) (behind_dashes words),
            subst Q (sym next) (trailing_sound fine words h waiting items will (subst P next rest)),
          )
      by false (Some (name, v)) s ed el es = long_sound fine words later h items word waiting skip will name v el e
      by false None (Some cs) ed el es =
          let (turn, rest) = rest-split (stands h waiting false) word words e in
          let (b, bs, spelled, same) = short_word word cs es in
          let (x, first) = first_char b bs (subst IsUtf8 spelled text) in
          absurd (w.short_turn flags options h waiting word b bs x el (es ∙ ap (λ c. Some c) same) ed first skip turn)
      by false None None ed el es = bare_sound fine words later h items word waiting quiet skip will el es ed e

  -- Words that the parser takes say items, and the rows then hold them.
  pub sound : IsFine → (words : List Text) → Each IsUtf8 words → Later words
  unfolding walk_fault
  sound fine [] texts h idle items (skip, will) e = ([], nothing, subst (λ xs. Holds (settled rules h).rows xs) (sym (append-nil items)) (will e))
  sound fine [] texts h positional items (skip, will) e = ([], nothing, subst (λ xs. Holds (settled rules h).rows xs) (sym (append-nil items)) (will e))
  sound fine [] texts h (option name) items (skip, there, pending, holds) e = absurd (waiting_fails fine h name there pending e)
  sound fine (word ∷ words) (text, texts) h idle items (skip, will) e = word_here fine words (sound fine words texts) h items word idle tt text skip will e
  sound fine (word ∷ words) (text, texts) h positional items (skip, will) e = word_here fine words (sound fine words texts) h items word positional tt text skip will e
  sound fine (word ∷ words) (text, texts) h (option name) items (skip, there, pending, holds) e =
      value_here fine words (sound fine words texts) h items word name text skip there pending holds e

  -- ---- words that say items are taken

  -- No value begins with a dash and is longer.
  abbrev pub AreBare : List Item → Type 0
  AreBare [] = Unit {0}
  AreBare (given name v ∷ items) = IsTrue (is_bare v) × AreBare items
  AreBare (file v ∷ items) = AreBare items
  AreBare (flag name ∷ items) = AreBare items

  -- A name that is given once behind items is in none of them.
  none-before : (rows : List Row) (items : List Item) (i : Item) (ys : List Item) (name v : Text) → Holds rows items → bytes_eq files_name name ≡ false
      → item_gives name i ≡ v ∷ [] → length (given_in name (items ++ i ∷ ys)) ≤ 1 → has_row name rows ≡ false
  none-before rows items i ys name v holds free gives few =
      row_there name rows ∙ ap is_some (holds.named name free) ∙ ap (λ vs. is_some (held vs)) (short (given_in name items) (given_in name ys) counts)
    where
      counts : length (given_in name items) + (1 + length (given_in name ys)) ≤ 1
      counts =
          let e : given_in name (items ++ i ∷ ys) ≡ given_in name items ++ (v ∷ given_in name ys) =
          flat_map-append (item_gives name) items (i ∷ ys) ∙ ap (λ vs. given_in name items ++ (vs ++ given_in name ys)) gives in
          omega (arith, few, ap length e, length-append (given_in name items) (v ∷ given_in name ys))

      short : (olds news : List Text) → length olds + (1 + length news) ≤ 1 → olds ≡ []
      short [] news lt = refl
      short (x ∷ olds) news lt = absurd (omega arith)

  pub complete : IsFine → (words : List Text) (ys : List Item) → Says syntax words ys → AreBare ys → (h : Held) (waiting : Waiting) → calm waiting → (items : List Item)
      → settle_fault rules false h ≡ [] → Holds (settled rules h).rows items → ((name : Text) → length (given_in name (items ++ ys)) ≤ 1)
      → (rest_fault (stands h waiting false) words ≡ []) × Ends (stands h waiting false) words (items ++ ys)
  unfolding walk_fault
  complete fine _ _ nothing bare h waiting quiet items settles holds once = (settles, subst (λ xs. Holds (settled rules h).rows xs) (sym (append-nil items)) holds)
  complete fine _ _ (behind_dashes names) bare h waiting quiet items settles holds once =
      let next = w.dashes_next flags options h waiting (dashed []) refl in
      let (rest, ends) = trailing_complete fine names h waiting items settles holds in
      let P : Walk → Type 0 = λ walk. rest_fault walk names ≡ [] in
      let Q : Walk → Type 0 = λ walk. Ends walk names (items ++ map file names) in
      (rest-joined (stands h waiting false) (dashed []) names (w.dashes_turn flags options h waiting (dashed []) refl) (subst P (sym next) rest), subst Q (sym next) ends)
  complete fine _ _ (a_file name words ys good says) bare h waiting quiet items settles holds once =
      let (long, short, other) = bare_word name good in
      let next = w.bare_next flags options h name long short other waiting quiet in
      let later = record (settled rules h) { pending = Some (files_name, name ∷ []) } in
      let done : settle_fault rules false later ≡ [] = w.files_settles flags options name (settled rules h).rows h.skip fine.free fine.clear in
      let (rest, ends) = complete fine words ys says bare later positional tt (items ++ file name ∷ []) done (file_will fine h name items holds done)
      (λ n. subst (λ xs. length (given_in n xs) ≤ 1) (sym (append_assoc items (file name ∷ []) ys)) (once n)) in
      let P : Walk → Type 0 = λ walk. rest_fault walk words ≡ [] in (
        rest-joined (stands h waiting false) name words (w.bare_turn flags options h name long short other waiting quiet ∙ settles) (subst P (sym next) rest),
        ends-next h waiting name words items (file name) later positional next ys ends,
      )
  complete fine _ _ (a_flag name words ys there says) bare h waiting quiet items settles holds once =
      let long = fine.flag_alone name there in
      let other = not_dashes (dashed name) (name, None) long in
      let new = none-before (settled rules h).rows items (flag name) ys name (codes "true") holds (files-apart fine name flags fine.free there) (ap (λ b. cond b (codes "true" ∷ []) []) (bytes-themselves name)) (once name) in
      let next = w.flag_next flags options h waiting (dashed name) name None long other there refl in
      let later = reacted rules (built_flag name) [] h in
      let (rest, ends) = complete fine words ys says bare later idle tt (items ++ flag name ∷ []) refl (flag_will fine h name items there holds new)
      (λ n. subst (λ xs. length (given_in n xs) ≤ 1) (sym (append_assoc items (flag name ∷ []) ys)) (once n)) in
      let P : Walk → Type 0 = λ walk. rest_fault walk words ≡ [] in (
        rest-joined (stands h waiting false) (dashed name) words
            (w.flag_turn flags options h waiting (dashed name) name None long other there refl
            ∙ or-nothing _ _ (or-nothing _ _ settles (w.flag_new flags options name (settled rules h).rows new)) refl) (subst P (sym next) rest),
        ends-next h waiting (dashed name) words items (flag name) later idle next ys ends,
      )
  complete fine _ _ (joined name v words ys there says) (good, bare) h waiting quiet items settles holds once =
      let long = fine.option_joined name v there in
      let gone = fine.apart name there in
      let word = dashed (name ++ 61 ∷ v) in
      let other = not_dashes word (name, Some v) long in
      let new = none-before (settled rules h).rows items (given name v) ys name v holds (files-apart fine name options fine.clear there) (ap (λ b. cond b (v ∷ []) []) (bytes-themselves name)) (once name) in
      let next = w.valued_next flags options h waiting word name (Some v) long other gone there v refl in
      let later = reacted rules (built_option name) (v ∷ []) h in
      let (rest, ends) = complete fine words ys says bare later idle tt (items ++ given name v ∷ []) refl (option_will fine (settled rules h).rows name v items there holds new)
      (λ n. subst (λ xs. length (given_in n xs) ≤ 1) (sym (append_assoc items (given name v ∷ []) ys)) (once n)) in
      let P : Walk → Type 0 = λ walk. rest_fault walk words ≡ [] in (
        rest-joined (stands h waiting false) word words
            (w.valued_turn flags options h waiting word name (Some v) long other gone there v refl
            ∙ or-nothing _ _ (or-nothing _ _ settles (w.option_new flags options name v (settled rules h).rows new)) refl) (subst P (sym next) rest),
        ends-next h waiting word words items (given name v) later idle next ys ends,
      )
  complete fine _ _ (an_option name v words ys there says) (good, bare) h waiting quiet items settles holds once =
      let long = fine.option_alone name there in
      let gone = fine.apart name there in
      let word = dashed name in
      let other = not_dashes word (name, None) long in
      let new = none-before (settled rules h).rows items (given name v) ys name v holds (files-apart fine name options fine.clear there) (ap (λ b. cond b (v ∷ []) []) (bytes-themselves name)) (once name) in
      let next = w.option_next flags options h waiting word name None long other gone there refl in
      let mid = record (settled rules h) { pending = Some (name, []) } in
      let (vlong, vshort, vother) = bare_word v good in
      let further = w.value_next flags options mid v vlong vshort vother name gone there refl in
      let later = record mid { pending = Some (name, v ∷ []) } in
      let done : settle_fault rules false later ≡ [] = w.option_settles flags options name (v ∷ []) mid.rows h.skip gone there ∙ w.option_new flags options name v mid.rows new in
      let R : List Row → Type 0 = λ rows. Holds rows (items ++ given name v ∷ []) in
      let (rest, ends) = complete fine words ys says bare later idle tt (items ++ given name v ∷ []) done
      (subst R (sym (w.option_settled flags options name (v ∷ []) mid.rows h.skip gone there)) (option_will fine mid.rows name v items there holds new))
      (λ n. subst (λ xs. length (given_in n xs) ≤ 1) (sym (append_assoc items (given name v ∷ []) ys)) (once n)) in
      let P : Walk → Type 0 = λ walk. rest_fault walk words ≡ [] in
      let Q : Walk → Type 0 = λ walk. rest_fault walk (v ∷ words) ≡ [] in
      let E : Walk → Type 0 = λ walk. Ends walk (v ∷ words) (items ++ given name v ∷ ys) in (
        rest-joined (stands h waiting false) word (v ∷ words) (w.option_turn flags options h waiting word name None long other gone there refl ∙ or-nothing _ _ settles refl)
            (subst Q (sym next) (rest-joined (stands mid (option name) false) v words (w.value_turn flags options mid v vlong vshort vother name) (subst P (sym further) rest))),
        subst E (sym next) (ends-next mid (option name) v words items (given name v) later idle further ys ends),
      )
