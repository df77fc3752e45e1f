-- Document 01, "Power-up": the checks before the work, and what they decide.
use Rattle.std.specs.Prelude.{◌≡◌, cond, List, ℕ, ltb}
use Rattle.numbers.specs.Answer.{Answer, gives, refused, Refusal, numbered, inside, Reason, no_reason, because}
use Rattle.exchange.specs.Base.{Geometry, BootStatus, BootNew, Testing, Success, UpdateStatus, UpdateNew, Updating, Flags, Malformed, AllF, At, All0}
use Rattle.exchange.specs.Base.{Flash, fits, boot_status_at, update_status_at, flags_at}
use Rattle.exchange.specs.declared.Job.{Job}
use Rattle.exchange.specs.declared.Job.TheVariants.{Update, Fallback, TurnDown}

-- The image check, as the rules use it: a partition's version, or the refusal of its image.
abbrev pub Check : Type 0
Check = Geometry → List ℕ → Answer ℕ

-- An image that the check takes, whatever its version.
pub record Good (image : Answer ℕ) : Type 0 where
  pub version : ℕ
  pub good : image ≡ gives version

-- What is decided: a refusal, Plain, or a job with its reason.
pub data Plan : Type 0 where
  refuse : Refusal → Plan
  plain : Plan
  work : Job → Reason → Plan

-- An update with all flags F, by the checks of UPDATE and of BOOT, UPDATE's first: a bad UPDATE is turned down with its own number,
-- a bad BOOT is 12; then a version that is not greater than BOOT's is turned down with 15.
abbrev pub accept : Answer ℕ → Answer ℕ → Plan
accept (refused n p) b = work TurnDown (because n p)
accept (gives v) (refused n p) = refuse (inside 12 n p)
accept (gives v) (gives w) = cond (ltb w v) (work Update no_reason) (work TurnDown (because 15 0))

-- A fallback with all flags F, by the check of UPDATE: a bad one is 13.
abbrev pub accept_fallback : Answer ℕ → Plan
accept_fallback (refused n p) = refuse (inside 13 n p)
accept_fallback (gives v) = work Fallback no_reason

-- By the flags. Only with all flags F are images checked before the work; an exchange that has begun goes on unchecked.
abbrev pub decide_update : Flags → Answer ℕ → Answer ℕ → Plan
decide_update Malformed u b = refuse (numbered 11 0)
decide_update AllF u b = accept u b
decide_update (At i leg) u b = work Update no_reason
decide_update All0 u b = work Update no_reason

abbrev pub decide_fallback : Flags → Answer ℕ → Plan
decide_fallback Malformed u = refuse (numbered 11 0)
decide_fallback AllF u = accept_fallback u
decide_fallback (At i leg) u = work Fallback no_reason
decide_fallback All0 u = work Fallback no_reason

-- With both UPDATING and TESTING only the end of an update can be left: unless every flag is 0 it is 11.
abbrev pub decide_closing : Flags → Plan
decide_closing Malformed = refuse (numbered 11 0)
decide_closing AllF = refuse (numbered 11 0)
decide_closing (At i leg) = refuse (numbered 11 0)
decide_closing All0 = work Update no_reason

-- By BOOT's and UPDATE's status. Where UPDATE is NEW and BOOT is not TESTING the flags are not read.
abbrev pub decide_by : BootStatus → UpdateStatus → Flags → Answer ℕ → Answer ℕ → Plan
decide_by BootNew UpdateNew flags u b = plain
decide_by Success UpdateNew flags u b = plain
decide_by Testing UpdateNew flags u b = decide_fallback flags u
decide_by BootNew Updating flags u b = decide_update flags u b
decide_by Success Updating flags u b = decide_update flags u b
decide_by Testing Updating flags u b = decide_closing flags

-- A status byte that is not allowed there is its own refusal, BOOT's first.
abbrev pub decide_statuses : Answer BootStatus → Answer UpdateStatus → Flags → Answer ℕ → Answer ℕ → Plan
decide_statuses (refused n p) us flags u b = refuse (numbered n p)
decide_statuses (gives bs) (refused n p) flags u b = refuse (numbered n p)
decide_statuses (gives bs) (gives us) flags u b = decide_by bs us flags u b

-- By the bytes of BOOT and UPDATE, whose lengths are right.
abbrev pub decide_within : Check → Geometry → List ℕ → List ℕ → Plan
decide_within check g boot update =
    decide_statuses (boot_status_at g boot) (update_status_at g update) (flags_at g update) (check g update) (check g boot)

-- Geometry and lengths first.
unfoldable pub decide : Check → Geometry → Flash → Plan
decide check g f = cond (fits g f) (decide_within check g f.boot f.update) (refuse (numbered 1 0))
