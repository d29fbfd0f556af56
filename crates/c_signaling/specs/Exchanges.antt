-- The w exchanges for a host in C: 01's bound on how long a backlog lasts, said of the calls that a host can make.
-- Assumes nothing.
use Rattle.std.specs.Prelude.{ℕ, suc, ◌-◌, ◌≤◌, Bool, ◌≡◌, List, [], length, Ok, Some}
use Rattle.reporter.specs.Rules.{ea_told}
use Rattle.signaling.specs.Calls.{sent, foreign, answers_sent, requests_sent}
use Rattle.signaling.specs.Exchanges.{pending, Room, IsRegistered}
use Rattle.c_signaling.specs.Calls.{Site, world_of, CStep, CRun}
use Rattle.c_signaling.specs.Log.{Call, reporter_raise, reporter_answer, reporter_read, collector_register, collector_read, collector_request, collector_take, host_sends, events}

-- "nothing raised meanwhile": no Raise answers 0. "No answer or request of theirs read outside an exchange": the box reads no answer of this
-- head. All else may be called.
abbrev pub CQuiet : Call → Type 0
CQuiet (reporter_raise g r) = r ≡ 0 → ⊥
CQuiet (reporter_answer s r t n) = Unit {0}
CQuiet (reporter_read services from bs r k o) = Unit {0}
CQuiet (collector_register j r) = Unit {0}
CQuiet (collector_read services (sent p) bs r k o) = ⊥
CQuiet (collector_read services foreign bs r k o) = Unit {0}
CQuiet (collector_request j s r t n) = Unit {0}
CQuiet (collector_take j r vs) = Unit {0}
CQuiet (host_sends bs) = Unit {0}

-- "On the line a repeat arrives before any later frame of the same sender": the frame that was read last is read once more,
-- under whichever table; an answer with whichever status entries
abbrev pub CAnswerAgain : ℕ → Call → Type 0
CAnswerAgain p x = (services : List ℕ) × (bs : List ℕ) × (r : ℕ) × (k : ℕ) × (o : ℕ) × (x ≡ collector_read services (sent p) bs r k o)

abbrev pub CRequestAgain : ℕ → List ℕ → Call → Type 0
CRequestAgain q bs x = (services : List ℕ) × (r : ℕ) × (k : ℕ) × (o : ℕ) × (x ≡ reporter_read services (sent q) bs r k o)

abbrev pub CNoRepeat : Call → Type 0
CNoRepeat x = ⊥

-- quiet calls, and repeats among them
pub data CQuietly (i : ℕ) (Repeat : Call → Type 0) : Site → Site → Type 0 where
  still : {w : Site} → CQuietly i Repeat w w
  next : {w v u : Site} {x : Call} → CQuietly i Repeat w v → CStep i v x u → CQuiet x → CQuietly i Repeat w u
  again : {w v u : Site} {x : Call} → CQuietly i Repeat w v → CStep i v x u → Repeat x → CQuietly i Repeat w u

-- "one answer read by the box, then its next request read by that head": both were written with 0, the answer since the exchange began, the
-- request since the box read
pub record CExchange (i : ℕ) (w v : Site) : Type 0 where
  pub state₁ : ℕ
  pub length₁ : ℕ
  pub answer : List ℕ
  pub w₁ : Site
  pub answers : CStep i w (reporter_answer state₁ 0 answer length₁) w₁
  pub w₂ : Site
  pub quiet₁ : CQuietly i CNoRepeat w₁ w₂
  pub p : ℕ
  pub answer_read : List ℕ
  pub box_services : List ℕ
  pub box_number : ℕ
  pub box_outcome : ℕ
  pub box_octet : ℕ
  pub w₃ : Site
  pub box_reads : CStep i w₂ (collector_read box_services (sent p) answer_read box_number box_outcome box_octet) w₃
  pub new_answer : length (answers_sent i (events w.log)) ≤ p
  pub w₄ : Site
  pub quiet₂ : CQuietly i (CAnswerAgain p) w₃ w₄
  pub state₂ : ℕ
  pub length₂ : ℕ
  pub request : List ℕ
  pub w₅ : Site
  pub requests : CStep i w₄ (collector_request i state₂ 0 request length₂) w₅
  pub w₆ : Site
  pub quiet₃ : CQuietly i CNoRepeat w₅ w₆
  pub q : ℕ
  pub request_read : List ℕ
  pub head_services : List ℕ
  pub head_number : ℕ
  pub head_outcome : ℕ
  pub head_octet : ℕ
  pub w₇ : Site
  pub head_reads : CStep i w₆ (reporter_read head_services (sent q) request_read head_number head_outcome head_octet) w₇
  pub new_request : length (requests_sent i (events w₄.log)) ≤ q
  pub ea : Bool
  pub mine : ea_told head_services i request_read ≡ Ok (Some ea)
  pub quiet₄ : CQuietly i (CRequestAgain q request_read) w₇ v

-- n exchanges, with quiet calls before, between and behind them
pub data CExchanges (i : ℕ) : ℕ → Site → Site → Type 0 where
  done : {w v : Site} → CQuietly i CNoRepeat w v → CExchanges i 0 w v
  more : {n : ℕ} {w t u v : Site} → CQuietly i CNoRepeat w t → CExchange i t u → CExchanges i n u v → CExchanges i (suc n) w v

pub record CProgress : Type 0 where
  -- each exchange closes one entry at least, while there is one
  pub closes : (i n : ℕ) (w v : Site) → CRun i w → Room i (world_of w) → CExchanges i n w v
      → length (pending i (world_of v)) ≤ length (pending i (world_of w)) - n
  -- "w entries are closed after at most w exchanges"
  pub closed : (i n : ℕ) (w v : Site) → CRun i w → Room i (world_of w) → CExchanges i n w v → length (pending i (world_of w)) ≤ n
      → pending i (world_of v) ≡ []

-- each exchange finds the places that it needs: its answer, when first read, is not refused with 12
abbrev pub CFound : {i n : ℕ} {w v : Site} → CExchanges i n w v → Type 0
CFound (done l) = Unit {0}
CFound (more l x xs) = (x.box_number ≡ 12 → ⊥) × CFound xs

pub record CStepwiseProgress : Type 0 where
  pub closes : (i n : ℕ) (w v : Site) → CRun i w → IsRegistered i (world_of w) → (xs : CExchanges i n w v) → CFound xs
      → length (pending i (world_of v)) ≤ length (pending i (world_of w)) - n
  pub closed : (i n : ℕ) (w v : Site) → CRun i w → IsRegistered i (world_of w) → (xs : CExchanges i n w v) → CFound xs
      → length (pending i (world_of w)) ≤ n
      → pending i (world_of v) ≡ []
  -- places for all at the start are found
  pub found : (i n : ℕ) (w v : Site) → CRun i w → Room i (world_of w) → (xs : CExchanges i n w v) → CFound xs
