-- Each number is written in its width, by what `format!` says of the six.
use Rattle.std.proofs.Common.{◌≡◌, ◌<◌, ◌++◌, string_bytes, codes, arith}
use Rattle.std.specs.Fmt.{styled_decimal}
use Rattle.an_base.proofs.MomentCalendar.{DateHolds, DateHolds-from, days_in_month-le}
use Rattle.an_base.proofs.MomentParts.{TimeHolds, TimeHolds-from}
use Rattle.an_base.proofs.MomentTexts.{padded_two, padded_four}
use Rattle.an_base.proofs.moment.date_time_text.Goals as goal

pub returns : goal.returns
returns c =
    let t = c.args.t in
    let date : DateHolds t = DateHolds-from t c.requires.date in
    let time : TimeHolds t = TimeHolds-from t c.requires.time in
    let day : t.day < 100 = omega (arith, date.days, days_in_month-le t.year t.month) in
    let written : string_bytes c.in_ok-text.text
    ≡ styled_decimal c.laid_out.result t.year
    ++ (codes "-"
    ++ (styled_decimal c.laid_out-2.result t.month
    ++ (codes "-"
    ++ (styled_decimal c.laid_out-3.result t.day
    ++ (codes "T"
    ++ (styled_decimal c.laid_out-4.result t.hour
    ++ (codes ":"
    ++ (styled_decimal c.laid_out-5.result t.minute
    ++ (codes ":" ++ (styled_decimal c.laid_out-6.result t.second ++ codes "Z")))))))))) =
    c.in_ok-text.ensures.ok in
    rw (
      c.from_string.ensures.value,
      written,
      c.laid_out.ensures,
      c.laid_out-2.ensures,
      c.laid_out-3.ensures,
      c.laid_out-4.ensures,
      c.laid_out-5.ensures,
      c.laid_out-6.ensures,
    )
    (rw (
      padded_four t.year (omega (arith, date.year)),
      padded_two t.month (omega (arith, date.months)),
      padded_two t.day day,
      padded_two t.hour (omega (arith, time.hour)),
      padded_two t.minute (omega (arith, time.minute)),
      padded_two t.second (omega (arith, time.second)),
    ))
