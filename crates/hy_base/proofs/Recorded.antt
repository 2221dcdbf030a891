-- What a shelf and a sink say of which a log is kept is what stands in that log.
use Rattle.std.proofs.Common.{◌≡◌, ℕ, List, [], ◌∷◌, ◌++◌, map, Option, Some, None, Ok, Err, refl, sym, ap, subst, ◌∙◌, append_assoc, append-nil}
use Rattle.std.proofs.lemmas.List.{map-append}
use Rattle.std.proofs.lemmas.List.Folds.{concat-append}
use Rattle.std.specs.List.{concat}
use Rattle.hy_base.specs.Logs.{Extends}
use Rattle.hy_base.specs.Pieces.{IsProperPrefix}
use Rattle.hy_base.specs.Recorded.{begins, AreCalls, AreReads}
use Rattle.hy_base.specs.Shelf.{Gave, nothing, more, Begun, Ended, Read, CameOfRead, ReadsFiles}
use Rattle.hy_base.specs.Sink as writes
use Rattle.hy_base.specs.Talks.{Call, opened, not_opened, gave, at_end, not_read, Put, took, not_taken}
use Rattle.hy_base.specs.declared.reading.FileError.TheVariants.{OpenFailed, ReadFailed, Limit, Memory}
use Rattle.hy_base.specs.declared.shelf.Shelf.{Ghosts}
use Rattle.hy_base.specs.declared.sink.Sink as sink

pub extends_none : {T : Type 0} (log : Option (List T)) → Extends log [] log
extends_none None = tt
extends_none (Some entries) = sym (append-nil entries)

pub extends_on : {T : Type 0} (old mid new : Option (List T)) (a b : List T) → Extends old a mid → Extends mid b new → Extends old (a ++ b) new
extends_on old mid None a b one two = tt
extends_on old None (Some n) a b one two = absurd two
extends_on None (Some m) (Some n) a b one two = absurd one
extends_on (Some o) (Some m) (Some n) a b one two = two ∙ ap (λ l. l ++ b) one ∙ append_assoc o a b

-- one piece more
concat_last : (pieces : List (List ℕ)) (piece bytes : List ℕ) → concat pieces ≡ bytes → concat (pieces ++ piece ∷ []) ≡ bytes ++ piece
concat_last pieces piece bytes e =
    concat-append pieces (piece ∷ []) ∙ ap (λ b. b ++ (piece ++ [])) e ∙ ap (λ p. bytes ++ p) (append-nil piece)

-- ---- shelves

module _ {S T : Type 0} (g : Ghosts S) (log : S → Option (List T)) (entry : Call → T)
    (noted : (old : S) (call : Call) (new : S) → g.called old call new → Extends (log old) (entry call ∷ []) (log new)) where
  -- The log of the one is that of the other with these calls behind.
  abbrev pub Logs : S → List Call → S → Type 0
  Logs old calls new = Extends (log old) (map entry calls) (log new)

  logs_on : (old mid new : S) (a b : List Call) → Logs old a mid → Logs mid b new → Logs old (a ++ b) new
  logs_on old mid new a b one two =
      subst (λ l. Extends (log old) l (log new)) (sym (map-append entry a b)) (extends_on (log old) (log mid) (log new) (map entry a) (map entry b) one two)

  gave_logged : (old new : S) (bytes : List ℕ) → Gave g old bytes new
      → (pieces : List (List ℕ)) × (concat pieces ≡ bytes) × Logs old (map gave pieces) new
  gave_logged old _ _ nothing = ([], refl, extends_none (log old))
  gave_logged old new _ (more bytes piece mid _ given called) =
      let (pieces, e, logged) = gave_logged old mid bytes given in (
        pieces ++ piece ∷ [],
        concat_last pieces piece bytes e,
        subst (λ calls. Logs old calls new) (sym (map-append gave pieces (piece ∷ [])))
            (logs_on old mid new (map gave pieces) (gave piece ∷ []) logged (noted mid (gave piece) new called)),
      )

  begun_logged : (old new : S) (name bytes : List ℕ) → Begun g old name bytes new
      → (pieces : List (List ℕ)) × (concat pieces ≡ bytes) × Logs old (begins name pieces) new
  begun_logged old new name bytes begun =
      let (pieces, e, logged) = gave_logged begun.opening new bytes begun.given in (
        pieces,
        e,
        logs_on old begun.opening new (opened name ∷ []) (map gave pieces) (noted old (opened name) begun.opening begun.opened) logged,
      )

  ended_logged : (old new : S) (name bytes : List ℕ) (call : Call) → Ended g old name bytes call new
      → (pieces : List (List ℕ)) × (concat pieces ≡ bytes) × Logs old (begins name pieces ++ call ∷ []) new
  ended_logged old new name bytes call ended =
      let (pieces, e, logged) = begun_logged old ended.last name bytes ended.begun in (
        pieces,
        e,
        logs_on old ended.last new (begins name pieces) (call ∷ []) logged (noted ended.last call new ended.called),
      )

  read_logged : (old new : S) (name : List ℕ) (read : Read) → CameOfRead g old new name read
      → (calls : List Call) × AreCalls name read calls × Logs old calls new
  read_logged old new name (Ok bytes) came =
      let (pieces, e, logged) = ended_logged old new name bytes at_end came.said in (_, (pieces, e, refl), logged)
  read_logged old new name (Err OpenFailed) came = (_, refl, noted old (not_opened name) new came.said)
  read_logged old new name (Err ReadFailed) came =
      let (pieces, e, logged) = ended_logged old new name came.bytes not_read came.said in (_, (pieces, refl), logged)
  read_logged old new name (Err Limit) came =
      let (pieces, e, logged) = begun_logged old new name came.bytes came.said in (_, (pieces, rw e came.many, refl), logged)
  read_logged old new name (Err Memory) came =
      let (pieces, e, logged) = begun_logged old new name came.bytes came.said in (_, (pieces, refl), logged)

  -- What came of reading files is what the log says.
  pub files_logged : (old new : S) (names : List (List ℕ)) (reads : List Read) → ReadsFiles g old new names reads
      → (calls : List Call) × AreReads names reads calls × Logs old calls new
  files_logged old new names [] same = ([], refl, subst (λ s. Logs old [] s) same (extends_none (log old)))
  files_logged old new [] (read ∷ reads) came = absurd came
  files_logged old new (name ∷ names) (read ∷ reads) (mid, is, came) =
      let (first, are, logged) = read_logged old mid name read is.came in
      let (others, all, behind) = files_logged mid new names reads came in
      (first ++ others, (first, others, are, all, refl), logs_on old mid new first others logged behind)

-- ---- sinks

module _ {S T : Type 0} (g : sink.Ghosts S) (log : S → Option (List T)) (entry : Put → T)
    (noted : (old : S) (put : Put) (new : S) → g.called old put new → Extends (log old) (entry put ∷ []) (log new)) where
  took_logged : (old new : S) (bytes : List ℕ) → writes.Took g old bytes new
      → (pieces : List (List ℕ)) × (concat pieces ≡ bytes) × Extends (log old) (map entry (map took pieces)) (log new)
  took_logged old _ _ writes.nothing = ([], refl, extends_none (log old))
  took_logged old new _ (writes.more bytes piece mid _ taken called) =
      let (pieces, e, logged) = took_logged old mid bytes taken in (
        pieces ++ piece ∷ [],
        concat_last pieces piece bytes e,
        subst (λ l. Extends (log old) l (log new)) (sym (ap (map entry) (map-append took pieces (piece ∷ [])) ∙ map-append entry (map took pieces) (took piece ∷ [])))
            (extends_on (log old) (log mid) (log new) _ (entry (took piece) ∷ []) logged (noted mid (took piece) new called)),
      )

  -- A text was given where the log has puts that took it, one piece after another, and no put that failed.
  pub whole_logged : (old new : S) (text : List ℕ) → writes.GivesWhole g old new text
      → (pieces : List (List ℕ)) × (concat pieces ≡ text) × Extends (log old) (map entry (map took pieces)) (log new)
  whole_logged old new text gives = took_logged old new text gives.taken

  -- A writer that failed made puts that took less than the text, and one behind them that failed.
  pub failed_logged : (old new : S) (text : List ℕ) → writes.FailsToGive g old new text
      → (pieces : List (List ℕ)) × IsProperPrefix (concat pieces) text × Extends (log old) (map entry (map took pieces ++ not_taken ∷ [])) (log new)
  failed_logged old new text fails =
      let (pieces, e, logged) = took_logged old fails.last fails.front fails.taken in (
        pieces,
        subst (λ f. IsProperPrefix f text) (sym e) fails.less,
        subst (λ l. Extends (log old) l (log new)) (sym (map-append entry (map took pieces) (not_taken ∷ [])))
            (extends_on (log old) (log fails.last) (log new) _ (entry not_taken ∷ []) logged (noted fails.last not_taken new fails.refused)),
      )

-- ---- no log says two readings

pieces_once : (p q : List (List ℕ)) (a b : List Call) → map gave p ++ at_end ∷ a ≡ map gave q ++ at_end ∷ b → (concat p ≡ concat q) × (a ≡ b)
pieces_once [] [] a b e = (refl, cc)
pieces_once [] (y ∷ q) a b e = absurd (cc)
pieces_once (x ∷ p) [] a b e = absurd (cc)
pieces_once (x ∷ p) (y ∷ q) a b e =
    let head : x ≡ y = cc in
    let behind : map gave p ++ at_end ∷ a ≡ map gave q ++ at_end ∷ b = cc in
    let (same, rest) = pieces_once p q a b behind in
    (ap (λ h. h ++ concat p) head ∙ ap (λ c. y ++ c) same, rest)

-- the calls of a file that is read to its end, and those behind
whole_calls : (name : List ℕ) (pieces : List (List ℕ)) (calls first others : List Call) → calls ≡ first ++ others
    → first ≡ begins name pieces ++ at_end ∷ [] → calls ≡ opened name ∷ (map gave pieces ++ at_end ∷ others)
whole_calls name pieces calls first others e f =
    e ∙ ap (λ l. l ++ others) f ∙ ap (λ l. opened name ∷ l) (append_assoc (map gave pieces) (at_end ∷ []) others)

none_read : (names : List (List ℕ)) (text : List ℕ) (texts : List (List ℕ)) → ¬ AreReads names (map Ok (text ∷ texts)) []
none_read [] text texts are = are
none_read (name ∷ names) text texts (first, others, (pieces, e, f), are, g) = let h = whole_calls name pieces [] first others g f in absurd (cc)

pub texts_once : (names texts others : List (List ℕ)) (calls : List Call) → AreReads names (map Ok texts) calls → AreReads names (map Ok others) calls
    → texts ≡ others
texts_once names [] [] calls one two = refl
texts_once names [] (other ∷ others) calls one two =
    absurd (none_read names other others (subst (λ c. AreReads names (map Ok (other ∷ others)) c) one two))
texts_once names (text ∷ texts) [] calls one two =
    absurd (none_read names text texts (subst (λ c. AreReads names (map Ok (text ∷ texts)) c) two one))
texts_once [] (text ∷ texts) (other ∷ others) calls one two = absurd one
texts_once (name ∷ names) (text ∷ texts) (other ∷ others) calls (first, left, (pieces, e, f), are, g) (next, rest, (parts, h, k), all, l) =
    let both = sym (whole_calls name pieces calls first left g f) ∙ whole_calls name parts calls next rest l k in
    let behind : map gave pieces ++ at_end ∷ left ≡ map gave parts ++ at_end ∷ rest = cc in
    let (same, later) = pieces_once pieces parts left rest behind in
    let front : text ≡ other = sym e ∙ same ∙ h in
    let equal = texts_once names texts others rest (subst (λ c. AreReads names (map Ok texts) c) later are) all in
    ap (λ t. t ∷ texts) front ∙ ap (λ ts. other ∷ ts) equal
