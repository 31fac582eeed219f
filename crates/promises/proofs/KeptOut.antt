-- An id that was confirmed is refused by every offer until 256 more confirmations were accepted. Assumes nothing.
use Prim.Native.Nat.{ℕ, ◌<◌}
use native.Mathlib.Omega.{arith}
use mathlib.Core.Path.{◌≡◌, ◌∙◌}
use mathlib.Core.Logic.{inl, inr}
use mathlib.Core.List.{List, ◌∷◌, ◌++◌}
use lib.ListN.{length}
use Rattle.plain.specs.Ops.{Request}
use Rattle.plain.specs.Record.{request_in}
use Rattle.plain.specs.Steps.{Answer, refused}
use Rattle.plain.specs.Site.{Call, offer, refusal}
use Rattle.plain.specs.History.{after, confirmations}
use Rattle.plain.specs.Demands.{Turned}
use Rattle.plain.proofs.KeptOut as P
use Rattle.store.specs.Calls.{State}
use Rattle.promises.specs.Runs.{Happens, FromFresh}
use Rattle.promises.specs.Demands.{KeptOut}
use Rattle.promises.proofs.Answers.{number_answer}
use Rattle.promises.proofs.Kept.{answers}

pub kept_out : {h : List Call} {y z : State} {b : List ℕ} {a : Answer} → FromFresh h y → Happens y (offer b) z a
    → (before behind : List (ℕ × Request)) (n : ℕ) (r : Request) → confirmations h ≡ before ++ (n, r) ∷ behind → length behind < 256
    → (request_in b).id ≡ r.id → KeptOut a
kept_out {h} {b = b} {a} f e before behind n r log few same =
    go ((P.kept_out h).offers_refused before behind n r log few b same)
  where
    told : (m : ℕ) → 0 < m → refusal (after h) (offer b) ≡ m → a ≡ refused m
    told m l q = answers f e ∙ number_answer (after h) (offer b) m l q

    go : Turned (refusal (after h) (offer b)) → KeptOut a
    go (inl q) = inl (told 3 (omega arith) q)
    go (inr (inl q)) = inr (inl (told 4 (omega arith) q))
    go (inr (inr q)) = inr (inr (told 14 (omega arith) q))
