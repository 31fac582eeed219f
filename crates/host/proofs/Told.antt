-- The six numbers lose nothing of an answer, and a host's call, fresh start or text has one outcome. Assumes nothing.
use Prim.Native.Nat.{ℕ, ◌<◌}
use mathlib.Core.Path.{◌≡◌, refl, sym, ap, ◌∙◌, subst}
use mathlib.Core.Bool.{cond}
use mathlib.Core.List.{List, []}
use lib.Dec.{eqb}
use lib.ListN.{length, get_or}
use Rattle.plain.specs.Steps.{Answer, refused, queued, stepped, executed, committed, waiting, value, to_do, unconfirmed, begun, entry}
use Rattle.plain.specs.Site.{Call, work}
use Rattle.site.specs.declared.Answer as D
use Rattle.site.specs.declared.Answer.TheVariants as v
use Rattle.site.specs.Held.{answer_of}
use Rattle.text.specs.Calls as T
use Rattle.text.proofs.Laws.{one_outcome_of_write, one_outcome_of_read}
use Rattle.store.specs.Store.{Store}
use Rattle.store.specs.Meaning.{cells_of}
use Rattle.store.specs.Calls.{State}
use Rattle.promised.specs.Promised.{Promised}
use Rattle.promises.proofs.Promises.{promises}
use Rattle.host.specs.Told.{told, asked, shown, told_fresh, told_text, Told, ToldWork, ToldFresh, ToldText, Readable}

-- what is told of a value whose case is known
pub known : {A : Type 0} (f : A → List ℕ) (a b : A) (t : List ℕ) → a ≡ b → t ≡ f b → t ≡ f a
known f a b t e h = rw e h

pub known_answer : (c : ℕ) (cells : List ℕ) (a b : D.Answer) (l : List ℕ) → a ≡ b → l ≡ told c (answer_of b cells) → l ≡ told c (answer_of a cells)
known_answer c cells = known (λ x. told c (answer_of x cells))

-- the answer that six numbers tell, and of an entry its cells: what it is, and its numbers
abbrev answer_at : List ℕ → ℕ → (ℕ → ℕ) → Answer
answer_at cells what n =
    cond (eqb what 0) (refused (n 1))
    (cond (eqb what 1) (queued (n 1) (n 2) (n 3) (n 4))
    (cond (eqb what 2) (stepped (n 1) (n 2))
    (cond (eqb what 3) (executed (n 1))
    (cond (eqb what 4) (committed (n 1) (n 2) (n 3) (n 4) (n 5))
    (cond (eqb what 5) (waiting (n 1) (n 2) (n 3))
    (cond (eqb what 6) (value (n 1))
    (cond (eqb what 7) (to_do (n 1) (n 2))
    (cond (eqb what 8) (unconfirmed (n 1))
    (cond (eqb what 11) (begun (n 1)) (entry (n 1) cells))))))))))

abbrev pub heard : List ℕ → List ℕ → Answer
heard cells l = answer_at cells (get_or l 0 0) (λ k. get_or l k 0)

pub nothing_lost : (c : ℕ) (before : List ℕ) (a : Answer) → heard (shown a before) (told c a) ≡ a
nothing_lost c before (refused reason) = refl
nothing_lost c before (queued id class place slot) = refl
nothing_lost c before (stepped id done) = refl
nothing_lost c before (executed id) = refl
nothing_lost c before (committed id number mark slot backs) = refl
nothing_lost c before (waiting id w put_back) = refl
nothing_lost c before (value cell) = refl
nothing_lost c before (to_do w backs) = refl
nothing_lost c before (unconfirmed backs) = refl
nothing_lost c before (begun place) = refl
nothing_lost c before (entry place cells) = refl

-- an array lent for an entry holds its cells; whatever else is answered leaves it
pub shown_entry : (a : D.Answer) (place : ℕ) (cells old new : List ℕ) → a ≡ v.Entry place → new ≡ cells → new ≡ shown (answer_of a cells) old
shown_entry a place cells old new e h = rw e h

pub shown_other : (a : D.Answer) (cells old : List ℕ) → ((x : ℕ) → a ≡ v.Entry x → ⊥) → old ≡ shown (answer_of a cells) old
shown_other (v.Refused n) cells old h = refl
shown_other (v.Queued id class place slot) cells old h = refl
shown_other (v.Stepped id done) cells old h = refl
shown_other (v.Executed id) cells old h = refl
shown_other (v.Committed id number mark slot backs) cells old h = refl
shown_other (v.Waiting id w back) cells old h = refl
shown_other (v.Value n) cells old h = refl
shown_other (v.ToDo w backs) cells old h = refl
shown_other (v.Unconfirmed backs) cells old h = refl
shown_other (v.Begun place) cells old h = refl
shown_other (v.Entry place) cells old h = absurd (h place refl)

pub read_right : (a : D.Answer) (place : ℕ) (run : List ℕ) (c : ℕ) → a ≡ v.Entry place → Readable a run c → (length run ≡ 1024) × (c < 16)
read_right a place run c e h = subst (λ (b : D.Answer). Readable b run c) e h

-- where an entry was read its class has cells
pub readable : (x : State) (c : ℕ) (y : State) (a : D.Answer) → Promised x (work c) y (answer_of a (cells_of y.committed c)) → Readable a y.committed c
readable x c y (v.Entry place) p =
    let r = promises.only_work_reads p.happens in
    let e : work c ≡ work r.0 = r.1 in
    let q : c ≡ r.0 = cc in
    (r.3.0, rw q r.2)
readable x c y (v.Refused n) p = tt
readable x c y (v.Queued id class place slot) p = tt
readable x c y (v.Stepped id done) p = tt
readable x c y (v.Executed id) p = tt
readable x c y (v.Committed id number mark slot backs) p = tt
readable x c y (v.Waiting id w back) p = tt
readable x c y (v.Value n) p = tt
readable x c y (v.ToDo w backs) p = tt
readable x c y (v.Unconfirmed backs) p = tt
readable x c y (v.Begun place) p = tt

-- the same numbers are told of it with any cells
pub same_told : (c : ℕ) (a : D.Answer) (cells : List ℕ) → told c (answer_of a []) ≡ told c (answer_of a cells)
same_told c (v.Refused n) cells = refl
same_told c (v.Queued id class place slot) cells = refl
same_told c (v.Stepped id done) cells = refl
same_told c (v.Executed id) cells = refl
same_told c (v.Committed id number mark slot backs) cells = refl
same_told c (v.Waiting id w back) cells = refl
same_told c (v.Value n) cells = refl
same_told c (v.ToDo w backs) cells = refl
same_told c (v.Unconfirmed backs) cells = refl
same_told c (v.Begun place) cells = refl
same_told c (v.Entry place) cells = refl

-- ONE OUTCOME
pub one_outcome : {x y z : State} {k : Call} {l m : List ℕ} → Told x k y l → Told x k z m → (y ≡ z) × (l ≡ m)
one_outcome {k = k} t u =
    let same = promises.one_outcome t.promised.happens u.promised.happens in
    (same.0, t.says ∙ ap (told (asked k)) same.1 ∙ sym u.says)

pub one_work : {x y z : State} {c : ℕ} {before after after' l m : List ℕ} → ToldWork x c y before after l → ToldWork x c z before after' m
    → (y ≡ z) × (after ≡ after') × (l ≡ m)
one_work {before = before} t u =
    let same = promises.one_outcome t.told.promised.happens u.told.promised.happens in
    let both = one_outcome t.told u.told in
    (both.0, t.cells ∙ ap (λ (a : Answer). shown a before) same.1 ∙ sym u.cells, both.1)

pub one_fresh : {base wrk base' wrk' base'' wrk'' l m : List ℕ} {t u : Store} → ToldFresh base wrk t base' wrk' l → ToldFresh base wrk u base'' wrk'' m
    → (t ≡ u) × (base' ≡ base'') × (wrk' ≡ wrk'') × (l ≡ m)
one_fresh p q =
    let same = promises.one_fresh p.begun.started q.begun.started in
    (same.0, same.2, same.3, p.says ∙ ap told_fresh same.1 ∙ sym q.says)

-- of a text, by what was done
one_text : (D E : T.Answer → Type 0) {after after' l m : List ℕ} → ((a b : T.Answer) → D a → E b → (a ≡ b) × (after ≡ after')) → ToldText D l → ToldText E m
    → (after ≡ after') × (l ≡ m)
one_text D E one p q =
    let same = one p.answer q.answer p.done q.done in
    (same.1, p.says ∙ ap told_text same.0 ∙ sym q.says)

pub one_written : {bytes before after after' l m : List ℕ} → ToldText (λ a. T.Wrote bytes before a after) l
    → ToldText (λ a. T.Wrote bytes before a after') m → (after ≡ after') × (l ≡ m)
one_written {bytes} {before} {after} {after'} =
    one_text (λ a. T.Wrote bytes before a after) (λ a. T.Wrote bytes before a after')
    (λ a b d e. one_outcome_of_write bytes before a b after after' d e)

pub one_read : {text before after after' l m : List ℕ} → ToldText (λ a. T.Took text before a after) l
    → ToldText (λ a. T.Took text before a after') m → (after ≡ after') × (l ≡ m)
one_read {text} {before} {after} {after'} =
    one_text (λ a. T.Took text before a after) (λ a. T.Took text before a after')
    (λ a b d e. one_outcome_of_read text before a b after after' d e)
