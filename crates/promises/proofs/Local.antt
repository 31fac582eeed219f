-- One class alone: on sites that agree in it a call answers alike and changes it alike, and a call leaves the other classes. Assumes nothing.
use Prim.Native.Nat.{ℕ, ◌<◌}
use mathlib.Core.Path.{◌≡◌, sym, ap, ◌∙◌}
use mathlib.Core.Bool.{true}
use mathlib.Core.List.{List}
use Rattle.plain.specs.Record.{request_in}
use Rattle.plain.specs.Queue.{has}
use Rattle.plain.specs.Steps.{Answer}
use Rattle.plain.specs.Site.{Call, offer, work, confirm, read, query, is_queued}
use Rattle.plain.specs.Demands.{Shares, SharesQueries, ActAlike, For}
use Rattle.plain.proofs.Locality as L
use Rattle.store.specs.Calls.{State, plain_of}
use Rattle.promises.specs.Runs.{Happens, Ready}
use Rattle.promises.specs.Promises.{Agree, Alike}
use Rattle.promises.proofs.Stands.{by_contract}

-- what holds of the plain calls holds of the calls
carried : {x x' : State} {c : ℕ} {k : Call} → Ready x → Ready x' → c < 16 → ActAlike (plain_of x) (plain_of x') c k → Alike x x' c k
carried {c = c} r r' l p y y' a a' e e' =
    let d = e.called.did r.0 r.1 in
    let d' = e'.called.did r'.0 r'.1 in
    (d.answer ∙ p.answer ∙ sym d'.answer, d.site.class c l ∙ p.class ∙ sym (d'.site.class c l))

pub work_alike : {x x' : State} {c : ℕ} → Ready x → Ready x' → c < 16 → Agree x x' c → Alike x x' c (work c)
work_alike {x} {x'} {c} r r' l g = carried r r' l (L.work_local (plain_of x) (plain_of x') c g)

pub read_alike : {x x' : State} {c k : ℕ} → Ready x → Ready x' → c < 16 → Agree x x' c → Alike x x' c (read c k)
read_alike {x} {x'} {c} {k} r r' l g = carried r r' l (L.read_local (plain_of x) (plain_of x') c k g)

pub offer_alike : {x x' : State} {b : List ℕ} {c : ℕ} → Ready x → Ready x' → c < 16 → Shares (plain_of x) (plain_of x') c
    → (request_in b).class ≡ c → Alike x x' c (offer b)
offer_alike {x} {x'} {b} {c} r r' l h e = carried r r' l (L.offer_local (plain_of x) (plain_of x') c h b e)

pub confirm_alike : {x x' : State} {i n c : ℕ} → Ready x → Ready x' → c < 16 → Shares (plain_of x) (plain_of x') c
    → (is_queued (plain_of x) i ≡ true → has i ((plain_of x).class c).queue ≡ true) → Alike x x' c (confirm i n)
confirm_alike {x} {x'} {i} {n} {c} r r' l h here = carried r r' l (L.confirm_local (plain_of x) (plain_of x') c h i n here l)

pub query_alike : {x x' : State} {m c : ℕ} → Ready x → Ready x' → c < 16 → SharesQueries (plain_of x) (plain_of x') c → Alike x x' c (query m)
query_alike {x} {x'} {m} {c} r r' l h = carried r r' l (L.query_local (plain_of x) (plain_of x') c h m)

pub others_left : {x y : State} {k : Call} {a : Answer} → Happens x k y a → (c : ℕ) → c < 16 → (For (plain_of x) k c → ⊥) → Agree y x c
others_left {x} {k = k} e c l n =
    by_contract e
    (λ r d. d.site.class c l ∙ L.others_left (plain_of x) k c n)
    (λ m d. ap (λ (w : State). (plain_of w).class c) d.untouched)
