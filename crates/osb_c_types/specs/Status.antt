-- The numbers that exports return. Each has one meaning, which is this project's choice, and none is used again.
use Rattle.std.specs.Prelude.{ℕ, Bool, false, ◌||◌, ◌==◌, List, [], ◌∷◌}
use Rattle.osb_c_types.specs.declared.status.Status.{Status}
use Rattle.osb_c_types.specs.declared.status.Status.TheVariants.{Done, Memory, Busy, NothingDue, NotPolling}
use Rattle.osb_c_types.specs.declared.status.Status.TheVariants.{NotRemovable, NothingRunning, PlanTwice, BadKind}
use Rattle.osb_c_types.specs.declared.status.Status.TheVariants.{BadOutcome, NotAnId, TooSmall, NotUtf8, NotJson}
use Rattle.osb_c_types.specs.declared.status.Status.TheVariants.{NotAnObject, BadVersion, BadOuter, BadMember}
use Rattle.osb_c_types.specs.declared.status.Status.TheVariants.{BadRecord, BadHolding, BadRow, BadAsked, BadMode}
use Rattle.osb_c_types.specs.declared.status.Status.TheVariants.{AttemptsUsedUp, NotInFlight, NothingBegun, Impossible}
use Rattle.osb_c_types.specs.declared.status.Status.TheVariants.{NoAnswer, NoSeconds, Unauthorized}
use Rattle.osb_c_types.specs.declared.status.Status.TheVariants.{NotRefused, RefusedTarget, RefusedMethod}
use Rattle.osb_c_types.specs.declared.status.Status.TheVariants.{RefusedVersion, RefusedLength, RefusedInstance}
use Rattle.osb_c_types.specs.declared.status.Status.TheVariants.{RefusedRepeated, RefusedService, RefusedPlan}
use Rattle.osb_c_types.specs.declared.status.Status.TheVariants.{RefusedAcceptsIncomplete, RefusedBody}
use Rattle.osb_c_types.specs.declared.status.Status.TheVariants.{RefusedOrganization, RefusedSpace, NoServices}
use Rattle.osb_c_types.specs.declared.status.Status.TheVariants.{BadService, NoPlans, BadPlan, BadPlanMode}
use Rattle.osb_c_types.specs.declared.status.Status.TheVariants.{NotAProvision, NotWaiting, NotInstanceText}
use Rattle.osb_c_types.specs.declared.status.Status.TheVariants.{NotServiceText, NotPlanText, NoMember, NoIdentity}
use Rattle.osb_c_types.specs.declared.status.Status.TheVariants.{NoPlanVersion, RefusedMaintenance, NoName, NameTwice}
use Rattle.osb_c_types.specs.declared.status.Status.TheVariants.{NoDescription, NotABoolean, NoBindable, NoPlan}
use Rattle.osb_c_types.specs.declared.status.Status.TheVariants.{BindableUnserved, UpdateUnserved, InstancesUnserved}
use Rattle.osb_c_types.specs.declared.status.Status.TheVariants.{BindingsUnserved, SameNumber, NotReady, Bound}
use Rattle.osb_c_types.specs.declared.status.Status.TheVariants.{RefusedBinding, RefusedApp, NotBindingText, NoBinding}
use Rattle.osb_c_types.specs.declared.status.Status.TheVariants.{NotRetrievable, BadDriver, WrongStage, BadThere, Misfit}
use Rattle.osb_c_types.specs.declared.status.Status.TheVariants.{BadAllowed, NothingUpdating, NotAvailable, RefusedNumber}

abbrev pub code : Status → ℕ
code Done = 0
code Memory = 1
code Busy = 6
code NothingDue = 7
code NotPolling = 9
code NotRemovable = 10
code NothingRunning = 11
code PlanTwice = 13
code BadKind = 14
code BadOutcome = 15
code NotAnId = 16
code TooSmall = 17
code NotUtf8 = 18
code NotJson = 19
code NotAnObject = 20
code BadVersion = 21
code BadOuter = 22
code BadMember = 24
code BadRecord = 25
code BadHolding = 26
code BadRow = 27
code BadAsked = 28
code BadMode = 29
code AttemptsUsedUp = 30
code NotInFlight = 31
code NothingBegun = 32
code Impossible = 33
code NoAnswer = 34
code NoSeconds = 36
code Unauthorized = 37
code NotRefused = 38
code RefusedTarget = 39
code RefusedMethod = 40
code RefusedVersion = 41
code RefusedLength = 42
code RefusedInstance = 43
code RefusedRepeated = 44
code RefusedService = 45
code RefusedPlan = 46
code RefusedAcceptsIncomplete = 47
code RefusedBody = 48
code RefusedOrganization = 49
code RefusedSpace = 50
code NoServices = 51
code BadService = 52
code NoPlans = 53
code BadPlan = 54
code BadPlanMode = 55
code NotAProvision = 56
code NotWaiting = 57
code NotInstanceText = 58
code NotServiceText = 59
code NotPlanText = 60
code NoMember = 61
code NoIdentity = 62
code NoPlanVersion = 63
code RefusedMaintenance = 64
code NoName = 65
code NameTwice = 66
code NoDescription = 67
code NotABoolean = 68
code NoBindable = 69
code NoPlan = 70
code BindableUnserved = 71
code UpdateUnserved = 72
code InstancesUnserved = 73
code BindingsUnserved = 74
code SameNumber = 75
code NotReady = 76
code Bound = 77
code RefusedBinding = 78
code RefusedApp = 79
code NotBindingText = 80
code NoBinding = 81
code NotRetrievable = 82
code BadDriver = 83
code WrongStage = 84
code BadThere = 85
code Misfit = 86
code BadAllowed = 87
code NothingUpdating = 88
code NotAvailable = 89
code RefusedNumber = 90

-- whether a number is one of those of the statuses
abbrev pub is_one_of : List Status → ℕ → Bool
is_one_of [] n = false
is_one_of (s ∷ ss) n = (n == code s) || is_one_of ss n
