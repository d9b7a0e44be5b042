-- Orphan Mitigation: after which answers to a Provision the platform cleans up.
use Rattle.std.specs.Prelude.{Bool, true, false, not, ◌||◌, ◌==◌, if◌then◌else◌}
use Rattle.osb_message.specs.declared.messages.Answer.{Answer}
use Rattle.osb_message.specs.Messages.{is_empty}
use Rattle.osb_platform.specs.Statuses.{is_within}

-- whether a Provision with this answer may have left an instance that nobody knows of, which the
-- platform has to delete (section Orphan Mitigation): success at once; success or work in progress, where
-- it can be read; any other success; what is refused; and else an error of the broker's (500 to 599) or a
-- status that the standard doesn't know
-- (that a 200 which can't be read is not, 201 and 202 which can't be read, 408, and the statuses below 200,
-- 300 to 399 and above 599 are this project's choice; the rest is the standard's)
abbrev pub mitigate : Answer → Bool
mitigate a =
    if a.status == 200 then false
    else (if a.status == 201 || a.status == 202 then not (is_empty a.body)
    else (if is_within 203 299 a.status then true
    else (if is_within 400 499 a.status then false
    else true)))
