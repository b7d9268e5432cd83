mod AmountReads
mod DigitSteps
mod GrammarLaw
mod RecordReads
