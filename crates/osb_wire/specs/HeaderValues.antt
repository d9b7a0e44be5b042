-- The headers of requests and of responses.
use Rattle.std.specs.Prelude.{ℕ, ◌^◌, Bool, ◌&&◌, not, ◌==◌, nat_lt, nat_le, if◌then◌else◌, List, codes, length, take, drop, ◌++◌, ◌∷◌}
use Rattle.std.specs.Prelude.{Option, Some, None, Result, Ok, Err, option_map, option_and_then}
use Rattle.std.specs.List.{list_all}
use Rattle.std.specs.Char.{is_ascii_digit}
use Rattle.std.specs.Str.Parse.{digits_value}
use Rattle.std.specs.Str.{bytes_eq, is_utf8, str_eq_ignore_ascii_case}
use Rattle.base64.specs.declared.decode.DecodeError.{DecodeError}
use Rattle.base64.specs.Engines.{standard}
use Rattle.base64.specs.GeneralPurpose.{encode_of, decode_of}
use Rattle.form_urlencoded.specs.Form.{split_once}
use Rattle.osb_wire.specs.Bodies.{object_in}
use Rattle.osb_wire.specs.declared.refusal.Refusal.{Refusal}
use Rattle.osb_wire.specs.declared.refusal.Refusal.TheVariants.{BadVersion}

-- decimal digits, at least one
abbrev pub is_number : List ℕ → Bool
is_number text = not (length text == 0) && list_all is_ascii_digit text

-- `2.` and a number (section API Version Header)
abbrev pub is_version : List ℕ → Bool
is_version value = bytes_eq (take 2 value) (codes "2.") && is_number (drop 2 value)

-- a broker wants a version, and one that it speaks
abbrev pub version_judged : Option (List ℕ) → Result (Unit {0}) Refusal
version_judged None = Err BadVersion
version_judged (Some value) = if is_version value then Ok tt else Err BadVersion

-- a user and a password, as HTTP Basic has them: `Basic `, in either case, and their base64; an empty user with an empty
-- password is never accepted
abbrev pub is_authorized : List ℕ → List ℕ → List ℕ → Bool
is_authorized value user password =
    not (length user == 0 && length password == 0)
    && (str_eq_ignore_ascii_case (take 6 value) (codes "Basic ")
    && bytes_eq (drop 6 value) (encode_of standard (user ++ 58 ∷ password)))

-- seconds (section Polling Last Operation for Service Instances)
abbrev pub seconds_in : List ℕ → Option ℕ
seconds_in value =
    if is_number value && nat_lt (digits_value 10 value) (2 ^ 64) then Some (digits_value 10 value) else None

-- what base64 stands for, where it stands for something
abbrev pub if_decoded : Result (List ℕ) DecodeError → Option (List ℕ)
if_decoded (Ok bytes) = Some bytes
if_decoded (Err fault) = None

abbrev pub if_object_text : List ℕ → Option (List ℕ)
if_object_text bytes = option_map (λ _. bytes) (object_in bytes)

-- the text of an object that base64 stands for
abbrev pub object_text : List ℕ → Option (List ℕ)
object_text encoded = option_and_then if_object_text (if_decoded (decode_of standard encoded))

-- a platform is a text that isn't empty
abbrev pub if_platform : List ℕ → Option (List ℕ)
if_platform bytes = if is_utf8 bytes && not (length bytes == 0) then Some bytes else None

abbrev pub identity_of : Option (List ℕ) → Option (List ℕ) → Option (List ℕ × List ℕ)
identity_of None object = None
identity_of (Some platform) object = option_map (λ text. (platform, text)) object

-- the platform, a blank, and an object in base64 (section Originating Identity)
abbrev pub identity_in : List ℕ → Option (List ℕ × List ℕ)
identity_in value = identity_of (if_platform ((split_once 32 value).0)) (object_text ((split_once 32 value).1))

-- a byte that a header of an answer can carry
abbrev pub is_printable : ℕ → Bool
is_printable b = nat_le 32 b && not (b == 127)

-- a text that isn't empty, with no control character (section Request Identity)
abbrev pub request_identity_in : List ℕ → Option (List ℕ)
request_identity_in value =
    if not (length value == 0) && list_all is_printable value then Some value else None
