-- Document 01, "Both sides of each edge": the cases marked P, those of the mark, of the count of times put back and of queries, in one table under
-- one statement about the definitions. Assumes nothing.
use Prim.Native.Nat.{ℕ, zero, suc, ◌-◌}
use mathlib.Core.Path.{◌≡◌, refl}
use mathlib.Core.List.{List, [], ◌∷◌, ◌++◌, map}
use lib.ListN.{length, drop, set, replicate}
use Rattle.plain.specs.Sizes.{slot_count, most_w}
use Rattle.plain.specs.Ops.{Op, put, add, need, move, carry, op_ok, valid}
use Rattle.plain.specs.Record.{request_in, is_record, request}
use Rattle.plain.specs.Steps.{Answer, refused, queued, stepped, executed, committed, waiting, value, to_do, unconfirmed, begun, entry}
use Rattle.plain.specs.Steps.{offer_step, work_step, confirm_step, query_step}
use Rattle.plain.specs.Site.{Call, work, confirm, read, look, query, fresh, zeros, call, act, refusal, class_of, is_free, slot_free, number_queued, is_kept}
use Rattle.plain.specs.Site.{sum, standing, bits, named, first_named, is_open, free_place}
use Rattle.plain.specs.History.{after, back_by, put_backs}
use Rattle.plain.specs.Told.{news, overtakers, queries_met}
use Rattle.plain.proofs.Written.{four_bytes, bytes_of_op, ops_bytes, record_of, offer_of, answers}

-- request i of class 0; and its whole run as number n: offered, confirmed, worked off
req : ℕ → List Op → Call
req i os = offer_of i 0 os

works : List Op → List Call
works [] = []
works (o ∷ os) = work 0 ∷ works os

run : ℕ → List Op → List Call
run n os = req n os ∷ confirm n n ∷ works os

-- a call for each of 1 to n
each : (ℕ → Call) → ℕ → List Call
each f zero = []
each f (suc n) = each f n ++ (f (suc n) ∷ [])

seven : List Op
seven = add 0 1 ∷ add 0 1 ∷ add 0 1 ∷ add 0 1 ∷ add 0 1 ∷ add 0 1 ∷ add 0 1 ∷ []

-- the last answers of a run of calls
pub last : ℕ → List Answer → List Answer
last n l = drop (length l - n) l

pub record Case : Type 0 where
  pub calls : List Call
  pub end : List Answer

top : ℕ
top = 4294967295

pub table : List Case
table =
    -- cells 100 and 0, move 60 leaves 40 and 60; the same move again declines
    record {
      calls = run 1 (put 0 100 ∷ []) ++ run 2 (move 0 1 60 ∷ []) ++ (read 0 0 ∷ read 0 1 ∷ []) ++ run 3 (move 0 1 60 ∷ []) ++ (read 0 0 ∷ []);
      end = committed 2 2 0 0 0 ∷ value 40 ∷ value 60 ∷ queued 3 0 1 0 ∷ waiting 3 1 0 ∷ committed 3 3 1 0 0 ∷ value 40 ∷ [];
    }
    -- move 1 into 4294967295 declines; move 0 does not
    ∷ record {
      calls = run 1 (put 0 5 ∷ put 1 top ∷ []) ++ run 2 (move 0 1 1 ∷ []) ++ run 3 (move 0 1 0 ∷ []);
      end = committed 2 2 1 0 0 ∷ queued 3 0 1 0 ∷ waiting 3 1 0 ∷ committed 3 3 0 0 0 ∷ [];
    }
    -- add 1 to 4294967295 gives 0
    ∷ record { calls = run 1 (put 0 top ∷ add 0 1 ∷ []) ++ (read 0 0 ∷ []); end = committed 1 1 0 0 0 ∷ value 0 ∷ [] }
    -- need 5 passes at 5 and declines at 4; need 0 passes at 0
    ∷ record { calls = run 1 (put 0 5 ∷ need 0 5 ∷ []); end = committed 1 1 0 0 0 ∷ [] }
    ∷ record { calls = run 1 (put 0 4 ∷ need 0 5 ∷ []); end = committed 1 1 2 0 0 ∷ [] }
    ∷ record { calls = run 1 (need 0 0 ∷ []); end = committed 1 1 0 0 0 ∷ [] }
    -- put 8 then a declining need leaves the committed cell
    ∷ record { calls = run 1 (put 0 3 ∷ []) ++ run 2 (put 0 8 ∷ need 0 9 ∷ []) ++ (read 0 0 ∷ []); end = committed 2 2 2 0 0 ∷ value 3 ∷ [] }
    -- queue confirmed, confirmed, waiting, waiting: confirming the fourth puts it third, nothing put back
    ∷ record {
      calls = req 1 (put 0 1 ∷ []) ∷ req 2 (put 0 2 ∷ []) ∷ req 3 (put 0 3 ∷ []) ∷ req 4 (put 0 4 ∷ []) ∷ confirm 1 1 ∷ confirm 2 2 ∷ confirm 4 3 ∷ work 0 ∷ work 0 ∷ work 0 ∷ work 0 ∷ [];
      end = waiting 4 3 0 ∷ committed 1 1 0 0 0 ∷ committed 2 2 0 1 0 ∷ committed 4 3 0 3 0 ∷ executed 3 ∷ [];
    }
    -- four waiting, the first executed: confirming the fourth makes it head and puts the first back
    ∷ record {
      calls = req 1 (put 0 1 ∷ []) ∷ req 2 (put 0 2 ∷ []) ∷ req 3 (put 0 3 ∷ []) ∷ req 4 (put 0 4 ∷ []) ∷ work 0 ∷ confirm 4 1 ∷ work 0 ∷ work 0 ∷ [];
      end = executed 1 ∷ waiting 4 1 1 ∷ committed 4 1 0 3 0 ∷ executed 1 ∷ [];
    }
    -- confirming an active head with 2 of 5 done answers W = 3 and keeps the 2
    ∷ record {
      calls = req 1 (add 0 1 ∷ add 0 1 ∷ add 0 1 ∷ add 0 1 ∷ add 0 1 ∷ []) ∷ work 0 ∷ work 0 ∷ confirm 1 1 ∷ work 0 ∷ work 0 ∷ work 0 ∷ read 0 0 ∷ [];
      end = waiting 1 3 0 ∷ stepped 1 3 ∷ stepped 1 4 ∷ committed 1 1 0 0 0 ∷ value 5 ∷ [];
    }
    -- the mark: the only operation declines; the first of two; the last of seven; the third, and the fifth would too
    ∷ record { calls = run 1 (need 0 1 ∷ []); end = committed 1 1 1 0 0 ∷ [] }
    ∷ record { calls = run 1 (need 0 1 ∷ put 0 1 ∷ []) ++ (read 0 0 ∷ []); end = committed 1 1 1 0 0 ∷ value 0 ∷ [] }
    ∷ record {
      calls = run 1 (add 0 1 ∷ add 0 1 ∷ add 0 1 ∷ add 0 1 ∷ add 0 1 ∷ add 0 1 ∷ need 0 7 ∷ []) ++ (read 0 0 ∷ []);
      end = committed 1 1 7 0 0 ∷ value 0 ∷ [];
    }
    ∷ record {
      calls = run 1 (put 0 4 ∷ []) ++ run 2 (add 0 1 ∷ need 0 5 ∷ move 0 1 6 ∷ add 0 1 ∷ need 0 9 ∷ []) ++ (read 0 0 ∷ []);
      end = committed 2 2 3 0 0 ∷ value 4 ∷ [];
    }
    -- a request that declined, put back, runs again with no mark
    ∷ record {
      calls = req 1 (need 0 5 ∷ []) ∷ req 2 (put 0 5 ∷ []) ∷ work 0 ∷ confirm 2 1 ∷ work 0 ∷ confirm 1 2 ∷ work 0 ∷ [];
      end = executed 1 ∷ waiting 2 1 1 ∷ committed 2 1 0 1 0 ∷ waiting 1 1 0 ∷ committed 1 2 0 0 1 ∷ [];
    }
    -- the count of times put back: one more each time, whatever was done; the same when it is confirmed, moves and commits; none for the others
    ∷ record {
      calls = req 1 (put 0 1 ∷ []) ∷ req 2 (put 0 2 ∷ []) ∷ req 3 (put 0 3 ∷ []) ∷ look 1 ∷ work 0 ∷ confirm 2 1 ∷ look 1 ∷ look 2 ∷ work 0 ∷ confirm 3 2 ∷ confirm 1 3 ∷ look 1 ∷ work 0 ∷ work 0 ∷ [];
      end = unconfirmed 0 ∷ executed 1 ∷ waiting 2 1 1 ∷ unconfirmed 1 ∷ to_do 1 0 ∷ committed 2 1 0 1 0 ∷ waiting 3 1 1 ∷ waiting 1 2 0 ∷ to_do 2 2 ∷ committed 3 2 0 2 0 ∷ committed 1 3 0 0 2 ∷ [];
    }
    -- a query of no class is refused, and only 16 classes are looked at; one of classes 0 and 1 puts the executed head back, and reads the cells
    -- without it in both
    ∷ record {
      calls = query 0 ∷ query 65536 ∷ req 1 (put 0 5 ∷ []) ∷ work 0 ∷ query 3 ∷ look 1 ∷ work 0 ∷ work 0 ∷ work 1 ∷ work 1 ∷ [];
      end = refused 17 ∷ refused 17 ∷ queued 1 0 1 0 ∷ executed 1 ∷ begun 1 ∷ unconfirmed 1 ∷ entry 1 zeros ∷ executed 1 ∷ entry 1 zeros ∷ refused 11 ∷ [];
    }
    -- it reads what was confirmed before it and not what was confirmed after; its entry counts 1 in the W of the request behind it and in the place
    -- of an offer, and leaves the W of the request before it
    ∷ record {
      calls = req 1 (put 0 5 ∷ []) ∷ req 2 (put 0 6 ∷ []) ∷ confirm 1 1 ∷ query 1 ∷ look 1 ∷ confirm 2 2 ∷ req 3 (put 0 7 ∷ []) ∷ work 0 ∷ work 0 ∷ work 0 ∷ [];
      end = waiting 1 1 0 ∷ begun 1 ∷ to_do 1 0 ∷ waiting 2 3 0 ∷ queued 3 0 4 2 ∷ committed 1 1 0 0 0 ∷ entry 1 (set zeros 0 5) ∷ committed 2 2 0 1 0 ∷ [];
    }
    -- a query is open until its last entry is read, and the lowest free place is taken; 8 may be open
    ∷ record {
      calls = query 3 ∷ work 0 ∷ query 1 ∷ work 1 ∷ query 4 ∷ [];
      end = begun 1 ∷ entry 1 zeros ∷ begun 2 ∷ entry 1 zeros ∷ begun 1 ∷ [];
    }
    ∷ record { calls = replicate 9 (query 32768) ++ (work 15 ∷ query 32768 ∷ []); end = begun 7 ∷ begun 8 ∷ refused 18 ∷ entry 1 zeros ∷ begun 1 ∷ [] }
    -- the most that W can be: all slots hold requests of seven operations in one class, all but the last are confirmed, and 8 queries stand before it
    ∷ record {
      calls = each (λ i. req i seven) slot_count ++ each (λ i. confirm i i) 127 ++ replicate 8 (query 1) ++ (confirm slot_count slot_count ∷ []);
      end = waiting slot_count most_w 0 ∷ [];
    }
    ∷ []

-- each case's last answers are those of the table
pub cases : map (λ (k : Case). last (length k.end) (answers fresh k.calls)) table ≡ map (λ (k : Case). k.end) table
unfolding table works run req each seven last top four_bytes bytes_of_op ops_bytes record_of offer_of answers fresh call act refusal class_of is_free slot_free number_queued is_kept sum standing bits named first_named is_open free_place offer_step work_step confirm_step query_step request_in is_record request valid op_ok carry
cases = refl

-- how unlucky: requests 1, 2, 3 and 5 of class 0 wait, and 4 of class 1. 2 is confirmed and worked off, a query of class 0 is read, 3 is confirmed: each
-- puts 1 back, and counts. 4, of another class, does not count, nor do 5 and a query once 1 is confirmed, nor 2, which is older, for 3. The latest call
-- stands first
pub unlucky_run : List Call
unlucky_run =
    query 1 ∷ confirm 5 5 ∷ confirm 1 4 ∷ confirm 3 3 ∷ work 0 ∷ query 1 ∷ confirm 4 2 ∷ work 0 ∷ confirm 2 1 ∷ offer_of 4 1 (put 0 4 ∷ [])
    ∷ req 5 (put 0 5 ∷ []) ∷ req 3 (put 0 3 ∷ []) ∷ req 2 (put 0 2 ∷ []) ∷ req 1 (put 0 1 ∷ []) ∷ []

pub unlucky_case : (put_backs 1 unlucky_run ≡ 3) × (overtakers 1 (news unlucky_run) ≡ 2) × (queries_met 1 (news unlucky_run) ≡ 1) × (overtakers 3 (news unlucky_run) ≡ 0)
unfolding unlucky_run req top four_bytes bytes_of_op ops_bytes record_of offer_of fresh call act refusal class_of is_free slot_free number_queued is_kept sum standing bits named first_named is_open free_place offer_step work_step confirm_step query_step request_in is_record request valid op_ok carry after back_by put_backs news overtakers queries_met
unlucky_case = (refl, refl, refl, refl)
